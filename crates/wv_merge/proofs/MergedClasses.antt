-- What the merging of two thin classes comes to.
use Rattle.std.proofs.Common.{◌≡◌, ℕ, ◌<◌, ◌≤◌, List, length, get_or, Some, sym, ap, subst, ◌∙◌}
use Rattle.std.specs.Prelude.{Contains, slice_get, IfOk, Result, Ok, Err}
use Rattle.std.proofs.lemmas.Option.{slice_get_within, get_or_from_slice_get}
use Rattle.wv_base.specs.declared.class_file.ClassFile.{ClassFile}
use Rattle.wv_base.specs.declared.class_file.Member.{Member}
use Rattle.wv_model.specs.PlainCode.{Mixin}
use Rattle.wv_model.specs.PlainMethod.{AreSame}
use Rattle.wv_merge.specs.Merging.{NoneMissing}
use Rattle.wv_merge.specs.Overwriting.{IsPlaceOf}
use Rattle.wv_merge.specs.ThinClass.{IsReadThin}
use Rattle.wv_merge.proofs.Tables.{one_only}

pub first_there : (methods items : List Member) (method : Member) → items ≡ methods → 1 ≤ length items → method ≡ get_or items 0 method → Contains methods method
first_there methods items method same some is = subst (λ (ms : List Member). Contains ms method) same (0, some, sym is)

pub place_within : (methods : List Member) (method : Member) (place : ℕ) → IsPlaceOf methods method place → place < length methods
place_within methods method place is = slice_get_within methods place is.old is.at

-- what stands at the place is the old method
pub old_at : (methods items : List Member) (place : ℕ) (old found : Member) → items ≡ methods → slice_get methods place ≡ Some old → found ≡ get_or items place found → found ≡ old
old_at methods items place old found same at is = is ∙ ap (λ (ms : List Member). get_or ms place found) same ∙ get_or_from_slice_get methods place old found at

-- no method is missing where one of the mixin has a place in the target
pub none_missing : (target mixin : ClassFile) (origin : Member) (place : ℕ) → IsReadThin Mixin mixin → Contains mixin.methods origin → IsPlaceOf target.methods origin place → NoneMissing target mixin
none_missing target mixin origin place thin of_mixin is method there missing =
    let same : method ≡ origin = one_only mixin.methods origin method thin.1.1.1.of_role.0 of_mixin there in
    let within = slice_get_within target.methods place is.old is.at in
    missing is.old (place, within, get_or_from_slice_get target.methods place is.old is.old is.at) (subst (AreSame is.old) (sym same) is.same)

-- what holds of an answer, where it is of one that less is asked of
pub ok_so : {T E : Type 0} {P Q : T → Type 0} (result : Result T E) → ((x : T) → P x → Q x) → IfOk result P → IfOk result Q
ok_so (Ok x) so is = so x is
ok_so (Err e) so is = tt
