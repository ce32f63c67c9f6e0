-- What is written of a class in which a method of the mixin overwrites one is what is written for the two classes.
use Rattle.std.proofs.Common.{◌≡◌, ℕ, Bool, List, [], ◌∷◌, ◌++◌, set, Option, Some, None, refl, sym, ap, subst, ◌∙◌}
use Rattle.std.specs.Prelude.{Contains}
use Rattle.std.specs.List.{AllByRecursion, AllZip}
use Rattle.wv_base.specs.declared.class_file.Body.{Body}
use Rattle.wv_base.specs.declared.class_file.ClassFile.{ClassFile}
use Rattle.wv_base.specs.declared.class_file.ClassVersion.{ClassVersion}
use Rattle.wv_base.specs.declared.class_file.Member.{Member}
use Rattle.wv_base.specs.declared.class_file.PoolEntry.{PoolEntry}
use Rattle.wv_base.specs.declared.insn.Insn.{Insn}
use Rattle.wv_class.specs.Same.{IsSameBodyIn, IsSameMember, IsSameClass, Writes}
use Rattle.wv_code.specs.Code.{AreWidened}
use Rattle.wv_code.specs.Meaning.{widened}
use Rattle.wv_model.specs.MemberTable.{IsMember, overwritten}
use Rattle.wv_model.specs.PlainCode.{Game}
use Rattle.wv_model.specs.PlainMethod.{IsAnyMethod}
use Rattle.wv_merge.specs.Applied.{applied}
use Rattle.wv_merge.specs.Overwriting.{IsChanged}
use Rattle.wv_merge.specs.Plain.{IsPlainBody, IsPlainMethod}
use Rattle.wv_merge.specs.Written.{IsWritten}
use Rattle.wv_merge.proofs.ReadMethods.{all_weaker, all_set, all_at, IsSimple, plain, push, reference, all_simple, some_body, method_read, any_method}
use Rattle.wv_merge.proofs.Tables.{one_only, table}
use Rattle.wv_merge.proofs.ChangedForm.{thin_formed, plain_methods, origin_plain, target_no_array, made_is}

-- ---- Plain code is written as it is

widened_is : {insn : Insn} (long : Bool) → IsSimple insn → widened long insn ≡ insn
widened_is long (plain is) = refl
widened_is long (push is fits) = refl
widened_is long (reference class is) = refl

code_same : (pool : List PoolEntry) (code other : List Insn) → AllByRecursion (IsSimple) code → AreWidened pool code other → other ≡ code
code_same pool [] [] is h = refl
code_same pool [] (j ∷ other) is h = absurd h
code_same pool (insn ∷ code) [] is h = absurd h
code_same pool (insn ∷ code) (j ∷ other) is ((long, widens, same), others) =
    let first : j ≡ insn = same ∙ widened_is long is.0 in
    let rest : other ≡ code = code_same pool code other is.1 others in
    cc

body_same : (pool : List PoolEntry) (body : Body) (other : Option Body) → AllByRecursion (IsSimple) body.insns → IsSameBodyIn pool (Some body) other → other ≡ Some body
body_same pool body None is h = absurd h
body_same pool body (Some other) is h =
    let same : other.insns ≡ body.insns = code_same pool body.insns other.insns is h.widened in
    ap (λ (b : Body). Some b) (h.others ∙ ap (λ (code : List Insn). record body { insns = code }) same)

member_same : (pool : List PoolEntry) (method other : Member) → IsPlainMethod Game method → IsSameMember pool method other → other ≡ method
member_same pool method other is h =
    let b = some_body method.body (IsPlainBody method.descriptor) is.code in
    let same : other.body ≡ Some b.0 = body_same pool b.0 other.body (all_simple b.0.insns b.2.plain) (subst (λ (o : Option Body). IsSameBodyIn pool o other.body) b.1 h.body) in
    h.others ∙ ap (λ (o : Option Body). record method { body = o }) (same ∙ sym b.1)

methods_same : (pool : List PoolEntry) (methods others : List Member) → AllByRecursion (IsPlainMethod Game) methods → AllZip (IsSameMember pool) methods others → others ≡ methods
methods_same pool [] [] is h = refl
methods_same pool [] (other ∷ others) is h = absurd h
methods_same pool (method ∷ methods) [] is h = absurd h
methods_same pool (method ∷ methods) (other ∷ others) is h =
    let first : other ≡ method = member_same pool method other is.0 h.0 in
    let rest : others ≡ methods = methods_same pool methods others is.1 h.1 in
    cc

-- ---- The class

-- the written class, which is the woven one but for its pool
written_is : (woven written : ClassFile) → AllByRecursion (IsPlainMethod Game) woven.methods → IsSameClass woven written → written ≡ record woven { pool = written.pool }
written_is woven written is h = h.others ∙ ap (λ (ms : List Member). record woven { pool = written.pool; methods = ms }) (methods_same written.pool woven.methods written.methods is h.methods)

written_others : (game written : ClassFile) (version : ClassVersion) (methods : List Member) → written ≡ record game { version = version; methods = methods; pool = written.pool } → written ≡ record game { version = written.version; methods = written.methods; pool = written.pool }
written_others game written version methods e =
    let v : written.version ≡ version = ap (λ (c : ClassFile). c.version) e in
    let m : written.methods ≡ methods = ap (λ (c : ClassFile). c.methods) e in
    subst (λ (ms : List Member). written ≡ record game { version = written.version; methods = ms; pool = written.pool }) (sym m)
    (subst (λ (w : ClassVersion). written ≡ record game { version = w; methods = methods; pool = written.pool }) (sym v) e)

module _ (target mixin woven : ClassFile) (is : IsChanged target mixin woven) where
  abbrev new : Member
  new = overwritten mixin.name target.name is.change.replaced.old is.change.origin

  made_methods : AllByRecursion (IsPlainMethod Game) (set target.methods is.overwriting.place new)
  made_methods =
      let place = is.overwriting.place in
      let old = is.change.replaced.old in
      let were = plain_methods Game target is.is_target in
      all_set (IsPlainMethod Game) target.methods place new were
      (method_read mixin.name target.name is.is_mixin.1.1.1.of_role.1 (target_no_array target mixin woven is) old is.change.origin is.change.replaced.same
      (all_at (IsPlainMethod Game) target.methods place old is.change.replaced.at were) (origin_plain target mixin woven is))

  only_origin : (other : Member) → Contains mixin.methods other → other ≡ is.change.origin
  only_origin other there = one_only mixin.methods is.change.origin other is.is_mixin.1.1.1.of_role.0 is.change.of_mixin there

  made_table : AllZip (IsMember (applied target mixin)) target.methods (set target.methods is.overwriting.place new)
  made_table =
      table (applied target mixin) is.change.origin is.change.of_mixin only_origin target.methods is.overwriting.place is.change.replaced.old is.change.replaced.at is.change.replaced.same
      (thin_formed Game target is.is_target).distinct_methods

  pub is_written : (bytes : List ℕ) → Writes woven bytes → IsWritten target mixin bytes
  is_written bytes writes =
      let written = writes.written in
      let methods = set target.methods is.overwriting.place new in
      let made = made_is target mixin woven is in
      let woven_methods : woven.methods ≡ methods = ap (λ (c : ClassFile). c.methods) made in
      let as_woven = written_is woven written (subst (AllByRecursion (IsPlainMethod Game)) (sym woven_methods) made_methods) writes.same in
      let as_target : written ≡ record target { version = is.overwriting.version; methods = methods; pool = written.pool } = as_woven ∙ ap (λ (c : ClassFile). record c { pool = written.pool }) made in
      let has_methods : written.methods ≡ methods = ap (λ (c : ClassFile). c.methods) as_target in
      record {
        class = written;
        spelled = writes.spelled;
        version = ap (λ (c : ClassFile). c.version) as_target ∙ is.change.version;
        table = subst (AllZip (IsMember (applied target mixin)) target.methods) (sym has_methods) made_table;
        plain = subst (AllByRecursion IsAnyMethod) (sym has_methods) (all_weaker (IsPlainMethod Game) IsAnyMethod methods any_method made_methods);
        more = writes.same.pool.0;
        same_front = writes.same.pool.1 ∙ ap (λ (c : ClassFile). c.pool ++ writes.same.pool.0) made;
        others = written_others target written is.overwriting.version methods as_target;
      }
