-- The constants behind a constant that a sound pool names are named too.
use Rattle.std.proofs.Common.{◌≡◌, ℕ, suc, ◌≤◌, Bool, true, false, cond, List, [], ◌∷◌, ◌++◌, Option, Some, None, refl, sym, ap, subst, ◌∙◌, arith}
use Rattle.std.specs.Prelude.{nat_le}
use Rattle.std.specs.Option.{option_map, option_and_then}
use Rattle.std.specs.List.{AllByRecursion}
use Rattle.std.proofs.lemmas.Bool.Decides.{nat_tests}
use Rattle.wv_base.specs.declared.class_file.PoolEntry.{PoolEntry}
use Rattle.wv_base.specs.declared.class_file.PoolEntry.TheVariants as entries
use Rattle.wv_base.specs.declared.constant.Const.{Const}
use Rattle.wv_base.specs.declared.constant.Const.TheVariants as constants
use Rattle.wv_base.specs.declared.constant.MemberReference.{MemberReference}
use Rattle.wv_pool.specs.References.{entry_of, text_in, text_of, class_of, pair_of, KindFits, IsSound, IsPool}
use Rattle.wv_pool.specs.Constants.{class_name, both, named_pair, member, handle, constant_in, constant_of}
use Rattle.wv_pool.specs.Numbers.{Named}
use Rattle.wv_pool.specs.Adding.{needs, class_needs, pair_needs, member_needs, handled}
use Rattle.wv_pool.proofs.Behind.{some_is, map_some, then_some}
use Rattle.wv_pool.proofs.SoundPools.{pair_entry, class_entry, sound_at}
use Rattle.wv_pool.proofs.Putting.{both_some, texts_some, member_some}
use Rattle.wv_pool.proofs.Parts.{handled_field, handled_method}
use Rattle.wv_code.proofs.OffsetFrames.{all_append}

text_entry : (o : Option PoolEntry) (x : List ℕ) → text_in o ≡ Some x → o ≡ Some (entries.Utf8 x)
text_entry None x e = absurd cc
text_entry (Some (entries.Utf8 y)) x e = ap (λ (t : List ℕ). Some (entries.Utf8 t)) (some_is y x e)
text_entry (Some (entries.Integer v)) x e = absurd cc
text_entry (Some (entries.Float b)) x e = absurd cc
text_entry (Some (entries.Long v)) x e = absurd cc
text_entry (Some (entries.Double b)) x e = absurd cc
text_entry (Some (entries.Class n)) x e = absurd cc
text_entry (Some (entries.String n)) x e = absurd cc
text_entry (Some (entries.Field m n)) x e = absurd cc
text_entry (Some (entries.Method m n)) x e = absurd cc
text_entry (Some (entries.InterfaceMethod m n)) x e = absurd cc
text_entry (Some (entries.NameAndType m n)) x e = absurd cc
text_entry (Some (entries.MethodHandle m n)) x e = absurd cc
text_entry (Some (entries.MethodType n)) x e = absurd cc
text_entry (Some (entries.InvokeDynamic m n)) x e = absurd cc
text_entry (Some entries.Unusable) x e = absurd cc

module _ (pool : List PoolEntry) where
  -- ---- texts, classes and pairs

  entry_named : (n : ℕ) (e : PoolEntry) (c : Const) → entry_of pool n ≡ Some e → constant_in pool e ≡ Some c → Named pool c
  entry_named n e c entry is = (n, ap (option_and_then (constant_in pool)) entry ∙ is)

  pub text_named : (n : ℕ) (x : List ℕ) → text_of pool n ≡ Some x → Named pool (constants.Utf8 x)
  text_named n x e = entry_named n (entries.Utf8 x) (constants.Utf8 x) (text_entry (entry_of pool n) x e) refl

  class_parts : (n : ℕ) (x : List ℕ) → class_name pool n ≡ Some x → AllByRecursion (Named pool) (class_needs x)
  class_parts n x e =
      let t = then_some (text_of pool) (class_of pool n) x e in
      (entry_named n (entries.Class t.0) (constants.Class x) (class_entry (entry_of pool n) t.0 t.1) (ap (option_map (λ y. constants.Class y)) t.2), (text_named t.0 x t.2, tt))

  texts_parts : (a b : ℕ) (x y : List ℕ) → Named pool (constants.NameAndType x y) → (text_of pool a ≡ Some x) × (text_of pool b ≡ Some y) → AllByRecursion (Named pool) (pair_needs x y)
  texts_parts a b x y there e = (there, (text_named b y e.1, (text_named a x e.0, tt)))

  pair_parts : (n : ℕ) (p : List ℕ × List ℕ) → named_pair pool n ≡ Some p → AllByRecursion (Named pool) (pair_needs p.0 p.1)
  pair_parts n p e =
      let t = texts_some pool (pair_of pool n) p e in
      let b = both_some (text_of pool t.0.0) (text_of pool t.0.1) p t.2 in
      texts_parts t.0.0 t.0.1 p.0 p.1
      (entry_named n (entries.NameAndType t.0.0 t.0.1) (constants.NameAndType p.0 p.1) (pair_entry (entry_of pool n) t.0 t.1) (ap (option_map (λ q. constants.NameAndType q.0 q.1)) t.2)) b

  member_parts : (a b : ℕ) (m : MemberReference) → member pool a b ≡ Some m → AllByRecursion (Named pool) (member_needs m)
  member_parts a b m e =
      let s = member_some (class_name pool a) (named_pair pool b) m e in
      all_append (Named pool) (pair_needs m.name m.descriptor) (class_needs m.owner) (pair_parts b (m.name, m.descriptor) s.1) (class_parts a m.owner s.0)

  -- ---- handles

  abbrev HasParts : Const → Type 0
  HasParts c = Named pool c → AllByRecursion (Named pool) (needs c)

  handle_parts : (kind a b : ℕ) (m : MemberReference) (i : Bool) → Named pool (handled kind m i) → member pool a b ≡ Some m → HasParts (constants.MethodHandle kind m i)
  handle_parts kind a b m i target e there = (there, (target, member_parts a b m e))

  handled_parts : (kind n : ℕ) (o : Option PoolEntry) (c : Const) → entry_of pool n ≡ o → KindFits pool kind o → handle pool kind o ≡ Some c → HasParts c
  handled_parts kind n None c is fits e = absurd cc
  handled_parts kind r (Some (entries.Utf8 x)) c is fits e = absurd cc
  handled_parts kind r (Some (entries.Integer v)) c is fits e = absurd cc
  handled_parts kind r (Some (entries.Float b)) c is fits e = absurd cc
  handled_parts kind r (Some (entries.Long v)) c is fits e = absurd cc
  handled_parts kind r (Some (entries.Double b)) c is fits e = absurd cc
  handled_parts kind r (Some (entries.Class n)) c is fits e = absurd cc
  handled_parts kind r (Some (entries.String n)) c is fits e = absurd cc
  handled_parts kind r (Some (entries.Field m n)) c is fits e =
      let t = map_some (λ x. constants.MethodHandle kind x false) (member pool m n) c e in
      let target = entry_named r (entries.Field m n) (constants.Field t.0) is (ap (option_map (λ x. constants.Field x)) t.1) in
      subst HasParts t.2 (handle_parts kind m n t.0 false (subst (Named pool) (sym (handled_field kind t.0 false fits)) target) t.1)
  handled_parts kind r (Some (entries.Method m n)) c is fits e =
      let t = map_some (λ x. constants.MethodHandle kind x false) (member pool m n) c e in
      let target = entry_named r (entries.Method m n) (constants.Method t.0 false) is (ap (option_map (λ x. constants.Method x false)) t.1) in
      subst HasParts t.2 (handle_parts kind m n t.0 false (subst (Named pool) (sym (handled_method kind t.0 false fits.0)) target) t.1)
  handled_parts kind r (Some (entries.InterfaceMethod m n)) c is fits e =
      let t = map_some (λ x. constants.MethodHandle kind x true) (member pool m n) c e in
      let target = entry_named r (entries.InterfaceMethod m n) (constants.Method t.0 true) is (ap (option_map (λ x. constants.Method x true)) t.1) in
      let low = fits.0 in
      subst HasParts t.2 (handle_parts kind m n t.0 true (subst (Named pool) (sym (handled_method kind t.0 true (omega (arith, low)))) target) t.1)
  handled_parts kind r (Some (entries.NameAndType m n)) c is fits e = absurd cc
  handled_parts kind r (Some (entries.MethodHandle m n)) c is fits e = absurd cc
  handled_parts kind r (Some (entries.MethodType n)) c is fits e = absurd cc
  handled_parts kind r (Some (entries.InvokeDynamic m n)) c is fits e = absurd cc
  handled_parts kind r (Some entries.Unusable) c is fits e = absurd cc

  -- ---- every entry

  entry_parts : (e : PoolEntry) (c : Const) → IsSound pool e → constant_in pool e ≡ Some c → HasParts c
  entry_parts (entries.Utf8 x) c h is = subst HasParts (some_is (constants.Utf8 x) c is) (λ there. (there, tt))
  entry_parts (entries.Integer v) c h is = subst HasParts (some_is (constants.Integer v) c is) (λ there. (there, tt))
  entry_parts (entries.Float b) c h is = subst HasParts (some_is (constants.Float b) c is) (λ there. (there, tt))
  entry_parts (entries.Long v) c h is = subst HasParts (some_is (constants.Long v) c is) (λ there. (there, tt))
  entry_parts (entries.Double b) c h is = subst HasParts (some_is (constants.Double b) c is) (λ there. (there, tt))
  entry_parts (entries.Class n) c h is = let t = map_some (λ x. constants.Class x) (text_of pool n) c is in subst HasParts t.2 (λ there. (there, (text_named n t.0 t.1, tt)))
  entry_parts (entries.String n) c h is = let t = map_some (λ x. constants.String x) (text_of pool n) c is in subst HasParts t.2 (λ there. (there, (text_named n t.0 t.1, tt)))
  entry_parts (entries.Field m n) c h is = let t = map_some (λ x. constants.Field x) (member pool m n) c is in subst HasParts t.2 (λ there. (there, member_parts m n t.0 t.1))
  entry_parts (entries.Method m n) c h is = let t = map_some (λ x. constants.Method x false) (member pool m n) c is in subst HasParts t.2 (λ there. (there, member_parts m n t.0 t.1))
  entry_parts (entries.InterfaceMethod m n) c h is = let t = map_some (λ x. constants.Method x true) (member pool m n) c is in subst HasParts t.2 (λ there. (there, member_parts m n t.0 t.1))
  entry_parts (entries.NameAndType m n) c h is =
      let t = map_some (λ p. constants.NameAndType p.0 p.1) (both (text_of pool m) (text_of pool n)) c is in
      subst HasParts t.2 (λ there. texts_parts m n t.0.0 t.0.1 there (both_some (text_of pool m) (text_of pool n) t.0 t.1))
  entry_parts (entries.MethodHandle m n) c h is = handled_parts m n (entry_of pool n) c refl h.0.2 is
  entry_parts (entries.MethodType n) c h is = let t = map_some (λ x. constants.MethodType x) (text_of pool n) c is in subst HasParts t.2 (λ there. (there, (text_named n t.0 t.1, tt)))
  entry_parts (entries.InvokeDynamic m n) c h is = let t = map_some (λ p. constants.InvokeDynamic m p.0 p.1) (named_pair pool n) c is in subst HasParts t.2 (λ there. (there, pair_parts n t.0 t.1))
  entry_parts entries.Unusable c h is = absurd cc

  pub parts_named : (c : Const) → IsPool pool → Named pool c → AllByRecursion (Named pool) (needs c)
  parts_named c sound (n, is) = let t = then_some (constant_in pool) (entry_of pool n) c is in entry_parts t.0 c (sound_at pool sound.1 n t.0 t.1) t.2 (n, is)
