-- The fields and methods that were read.
use Rattle.std.proofs.Common.{◌≡◌, ℕ, List, [], ◌∷◌, ◌++◌, reverse, Option, Some, None, sym, subst, ◌∙◌}
use Rattle.std.proofs.lemmas.List.{append_assoc, reverse-append}
use Rattle.std.specs.Prelude.{IfSome}
use Rattle.std.specs.List.{AllByRecursion}
use Rattle.wv_base.specs.declared.class_file.PoolEntry.{PoolEntry}
use Rattle.wv_base.specs.declared.class_file.Body.{Body}
use Rattle.wv_base.specs.declared.class_file.Member.{Member}
use Rattle.wv_base.specs.declared.frame.Frame.{Frame}
use Rattle.wv_code.specs.declared.raw_body.RawBody.{RawBody}
use Rattle.wv_code.specs.Body.{IsStart}
use Rattle.wv_class.specs.declared.raw_class.RawMember.{RawMember}
use Rattle.wv_class.specs.Breaks.{StartsWith}
use Rattle.wv_class.specs.Meaning.{codes_in, IsBodyIn, IsMemberOf, AreMembersOf}
use Rattle.wv_class.specs.MemberRead.{in_list, HasReadCode, IsReadCode, IsBodyOfCode, IsRead}
use Rattle.wv_class.proofs.AttributeMeanings.{all_front, all_back}

module _ (pool : List PoolEntry) (class : ℕ) where
  -- ---- Code

  start_ready : (m : RawMember) (raw : RawBody) (first : Option Frame) → HasReadCode pool class m raw → IfSome first (StartsWith pool class m) → IfSome first IsStart
      → ((frame : Frame) → StartsWith pool class m frame → first ≡ Some frame) → IsReadCode pool first (Some raw)
  start_ready m raw (Some first) read found start only = (read.content, read.sound first found, start)
  start_ready m raw None read found start only = absurd (read.starts (λ frame starts. never frame (only frame starts)))
    where
      never : (frame : Frame) → None ≡ Some frame → ⊥
      never frame e = cc

  pub code_ready : (m : RawMember) (first : Option Frame) (code : Option RawBody) → IsRead pool class m → codes_in m.attributes ≡ in_list code → IfSome first (StartsWith pool class m) → IfSome first IsStart
      → ((frame : Frame) → StartsWith pool class m frame → first ≡ Some frame) → IsReadCode pool first code
  code_ready m first None read codes found start only = tt
  code_ready m first (Some raw) read codes found start only = start_ready m raw first (subst (AllByRecursion (HasReadCode pool class m)) codes read.codes).0 found start only

  body_means : (m : RawMember) (first : Option Frame) (code : Option RawBody) (body : Option Body) → IfSome first (StartsWith pool class m) → IsBodyOfCode pool first code body → IsBodyIn pool class m (in_list code) body
  body_means m first None None found is = tt
  body_means m first None (Some body) found is = absurd cc
  body_means m None (Some raw) body found is = absurd is
  body_means m (Some first) (Some raw) None found is = absurd is
  body_means m (Some first) (Some raw) (Some body) found is = (first, found, is)

  pub body_meant : (m : RawMember) (first : Option Frame) (code : Option RawBody) (body : Option Body) → codes_in m.attributes ≡ in_list code → IfSome first (StartsWith pool class m) → IsBodyOfCode pool first code body
      → IsBodyIn pool class m (codes_in m.attributes) body
  body_meant m first code body codes found is = subst (λ t. IsBodyIn pool class m t body) (sym codes) (body_means m first code body found is)

  -- ---- Members

  pub member_read : (initial raws done : List RawMember) (m : RawMember) → initial ≡ (raws ++ m ∷ []) ++ done → AllByRecursion (IsRead pool class) initial → IsRead pool class m
  member_read initial raws done m parts all = (all_back (IsRead pool class) raws (m ∷ []) (all_front (IsRead pool class) (raws ++ m ∷ []) done (subst (AllByRecursion (IsRead pool class)) parts all))).0

  pub members_more : (initial raws done : List RawMember) (raw : RawMember) (members : List Member) (m : Member) → initial ≡ (raws ++ raw ∷ []) ++ done → AreMembersOf pool class done (reverse members) → IsMemberOf pool class raw m
      → (others : List RawMember) × (initial ≡ raws ++ others) × AreMembersOf pool class others (reverse (members ++ m ∷ []))
  members_more initial raws done raw members m parts are is =
      (raw ∷ done, parts ∙ append_assoc raws (raw ∷ []) done, subst (AreMembersOf pool class (raw ∷ done)) (sym (reverse-append members (m ∷ []))) (is, are))
