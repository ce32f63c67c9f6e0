-- Contents that other readers read, of which bytes may be missing at the end.
use Rattle.std.proofs.Common.{◌≡◌, ℕ, zero, suc, ◌+◌, ◌-◌, ◌^◌, ◌<◌, ◌≤◌, Bool, List, [], ◌∷◌, ◌++◌, length, take, drop, refl, sym, ap, subst, ◌∙◌, inl, inr, arith}
use Rattle.std.proofs.lemmas.Bool.{cases_lt}
use Rattle.std.proofs.lemmas.List.{length-append, length-drop, length-take, length-take-le, take-append-drop, take-take, take_at}
use Rattle.wv_base.specs.declared.class_file.PoolEntry.{PoolEntry}
use Rattle.wv_code.specs.declared.raw_body.RawBody.{RawBody}
use Rattle.wv_code.specs.Content.{IsContent}
use Rattle.wv_code.specs.Content.{IsLayoutFault as IsCodeFault}
use Rattle.wv_attr.specs.declared.mark.Mark.{Mark}
use Rattle.wv_attr.specs.declared.group.Group.{Group}
use Rattle.wv_attr.specs.Marks.{table_bytes}
use Rattle.wv_attr.specs.Layout.{lists}
use Rattle.wv_attr.specs.Layout.{Begins as BeginsParts, IsLayoutFault as IsPartsFault}
use Rattle.wv_attr.proofs.Leading.{nearer_only}
use Rattle.wv_class.specs.declared.raw_class.Kind.{Kind}
use Rattle.wv_class.specs.declared.raw_class.Kind.TheVariants as kinds
use Rattle.wv_class.specs.declared.raw_class.Content.{Content}
use Rattle.wv_class.specs.declared.raw_class.Content.TheVariants as contents
use Rattle.wv_class.specs.Kinds.{kind_of}
use Rattle.wv_class.specs.Layout.{Begins, SpellsParts, SpellsContent}
use Rattle.wv_class.specs.Lengths.{AllowsLength}
use Rattle.wv_class.specs.Contents.{SpellsSized}
use Rattle.wv_class.specs.Reading.{Stopped}
use Rattle.wv_class.proofs.Allowed.{one_longer}
use Rattle.wv_class.proofs.ContentGrammars.{some_sized}

-- all the bytes that are there, and those that are missing
pub cut_size : (len : ℕ) (bytes : List ℕ) → length (take len bytes) + (len - length bytes) ≡ len
cut_size len bytes = omega (arith, length-take len bytes)

module _ (pool : List PoolEntry) (kind : Kind) (len : ℕ) (bytes : List ℕ) (small : len < 2 ^ 32) (fits : AllowsLength kind len) where
  abbrev Sized : ℕ → Content → List ℕ → Type 0
  Sized = SpellsSized pool kind len

  cut_begun : (at : ℕ) → at ≤ length (take len bytes) → (0 < at → Begins Sized (take at (take len bytes))) → Begins Sized (take at bytes)
  cut_begun zero le begun = let s = some_sized pool kind len small fits in record { value = s.content; more = s.text; spelled = s.spelled }
  cut_begun (suc at) le begun = subst (Begins Sized) (take-take (suc at) len bytes (omega (arith, length-take len bytes))) (begun (omega arith))

  -- the place of a fault in those that are there
  pub cut_stops : (at : ℕ) → at ≤ length (take len bytes) → (0 < at → Begins Sized (take at (take len bytes))) → (at < length (take len bytes) → Begins Sized (take (at + 1) (take len bytes)) → ⊥)
      → (len ≤ length bytes → (x : Content) → Sized (length (take len bytes)) x (take len bytes) → ⊥) → Stopped Sized bytes (length bytes - at)
  cut_stops at le begun none whole =
      let there = length-take len bytes in
      record {
        front = take at bytes;
        back = drop at bytes;
        parts = sym (take-append-drop at bytes);
        place = sym (length-drop at bytes);
        begun = cut_begun at le begun;
        none = λ b others e begins.
            let further : 1 ≤ length (drop at bytes) = omega (arith, ap length e) in
            let longer = one_longer bytes at b others (omega (arith, there)) e in
            elim (cases_lt at (length (take len bytes))) [
              | inl lt ↦ none lt (subst (Begins Sized) (sym (take-take (at + 1) len bytes (omega (arith, there)) ∙ longer)) begins)
              | inr most ↦
                  absurd (omega (arith, begins.spelled.long, length-append (take at bytes ++ b ∷ []) begins.more, length-append (take at bytes) (b ∷ []), length-take at bytes, length-drop at bytes, further, there, most))
            ];
        no_item = λ value text rest e s.
            let front : take len bytes ≡ text = ap (take len) e ∙ take_at text rest len s.long in
            whole (omega (arith, ap length e, length-append text rest, s.long)) value (subst (λ (z : List ℕ). Sized (length z) value z) (sym front) s);
      }

-- ---- code

code_of : (pool : List PoolEntry) (near : ℕ) (x : Content) (t : List ℕ) → kinds.Code ≡ kind_of x → SpellsContent near pool x t → (raw : RawBody) × IsContent pool raw t
code_of pool near (contents.Code raw) t k s = (raw, s)
code_of pool near _ t k s = absurd cc

module _ (pool : List PoolEntry) (len : ℕ) (bytes : List ℕ) (small : len < 2 ^ 32) (fits : AllowsLength kinds.Code len) where
  pub code_stops : (at : ℕ) → IsCodeFault pool (len - length bytes) (take len bytes) at → Stopped (SpellsSized pool kinds.Code len) bytes (length bytes - at)
  code_stops at f =
      let size = cut_size len bytes in
      cut_stops pool kinds.Code len bytes small fits at f.within
      (λ some. let b = f.begun some in record { value = contents.Code b.raw; more = b.more; spelled = record { long = b.sized ∙ size; known = refl; is = b.content } })
      (λ lt b. f.none lt (
      let s = b.spelled in
      let c = code_of pool (length (take (at + 1) (take len bytes))) b.value (take (at + 1) (take len bytes) ++ b.more) s.known s.is in
      record { raw = c.0; more = b.more; content = c.1; sized = s.long ∙ sym size }))
      (λ le x s. let c = code_of pool (length (take len bytes)) x (take len bytes) s.known s.is in f.no_content (omega arith) c.0 c.1)

-- ---- annotations

parts_of : (pool : List PoolEntry) (visible : Bool) (near : ℕ) (x : Content) (t : List ℕ) → kinds.Annotations visible ≡ kind_of x → SpellsContent near pool x t → (parts : List Mark) × SpellsParts near (lists 1) parts t
parts_of pool visible near (contents.Annotations v parts) t k s = (parts, s)
parts_of pool visible near _ t k s = absurd cc

-- the bytes in front of a place, and what they begin
module _ (gs : List Group) (front : List ℕ) (missing : ℕ) (small : length front + missing < 2 ^ 32) where
  pub begins_parts : (k : ℕ) → k ≤ length front → (parts : List Mark) (more : List ℕ) → length (take k front ++ more) ≡ length front + missing → SpellsParts (length (take k front)) gs parts (take k front ++ more) → BeginsParts gs front missing k
  begins_parts k le parts more long s =
      let wide : length (take k front) ≡ k = length-take-le k front le in
      record {
        parts = parts;
        small = small;
        follows = nearer_only k (omega (arith, wide)) s.follows;
        long = ap length (sym s.spelled) ∙ long;
        agrees = ap (take k) (sym s.spelled) ∙ take_at (take k front) more k wide;
      }

  pub parts_begin : (k : ℕ) → k ≤ length front → (b : BeginsParts gs front missing k) → SpellsParts (length (take k front)) gs b.parts (take k front ++ drop k (table_bytes b.parts))
  parts_begin k le b = record {
    follows = nearer_only (length (take k front)) (omega (arith, length-take-le k front le)) b.follows;
    spelled = ap (λ (z : List ℕ). z ++ drop k (table_bytes b.parts)) (sym b.agrees) ∙ take-append-drop k (table_bytes b.parts);
  }

  pub parts_size : (k : ℕ) → k ≤ length front → (b : BeginsParts gs front missing k) → length (take k front ++ drop k (table_bytes b.parts)) ≡ length front + missing
  parts_size k le b = ap (λ (z : List ℕ). length (z ++ drop k (table_bytes b.parts))) (sym b.agrees) ∙ ap length (take-append-drop k (table_bytes b.parts)) ∙ b.long

module _ (pool : List PoolEntry) (visible : Bool) (len : ℕ) (bytes : List ℕ) (small : len < 2 ^ 32) (fits : AllowsLength (kinds.Annotations visible) len) where
  pub parts_stops : (at : ℕ) → IsPartsFault (lists 1) (take len bytes) (len - length bytes) at → Stopped (SpellsSized pool (kinds.Annotations visible) len) bytes (length bytes - at)
  parts_stops at f =
      let size = cut_size len bytes in
      let narrow : length (take len bytes) + (len - length bytes) < 2 ^ 32 = omega (arith, size, small) in
      cut_stops pool (kinds.Annotations visible) len bytes small fits at f.within
      (λ some.
      let b = f.begins at some (omega arith) in
      record {
        value = contents.Annotations visible b.parts;
        more = drop at (table_bytes b.parts);
        spelled = record { long = parts_size (lists 1) (take len bytes) (len - length bytes) narrow at f.within b ∙ size; known = refl; is = parts_begin (lists 1) (take len bytes) (len - length bytes) narrow at f.within b };
      })
      (λ lt b. f.none lt (
      let s = b.spelled in
      let c = parts_of pool visible (length (take (at + 1) (take len bytes))) b.value (take (at + 1) (take len bytes) ++ b.more) s.known s.is in
      begins_parts (lists 1) (take len bytes) (len - length bytes) narrow (at + 1) (omega arith) c.0 b.more (s.long ∙ sym size) c.1))
      (λ le x s.
      let c = parts_of pool visible (length (take len bytes)) x (take len bytes) s.known s.is in
      f.no_table (omega arith) c.0 (record { small = omega (arith, narrow); follows = c.1.follows; spelled = c.1.spelled }))
