-- Lists of annotations of parameters, of which bytes may be missing at the end.
use Rattle.std.proofs.Common.{◌≡◌, ℕ, zero, suc, ◌+◌, ◌-◌, ◌^◌, ◌<◌, ◌≤◌, Bool, List, [], ◌∷◌, ◌++◌, length, take, drop, refl, sym, ap, subst, ◌∙◌, ◌⊎◌, inl, inr, arith, add-one}
use Rattle.std.proofs.lemmas.List.{length-take-le, take-append-drop}
use Rattle.wv_base.specs.declared.class_file.PoolEntry.{PoolEntry}
use Rattle.wv_code.proofs.Numbers.{AreBytes, are_take}
use Rattle.wv_attr.specs.declared.mark.Mark.{Mark}
use Rattle.wv_attr.specs.Marks.{table_bytes}
use Rattle.wv_attr.specs.Layout.{lists, IsParameterTable, BreaksBehind, BreaksFirst}
use Rattle.wv_attr.specs.Layout.{Begins as BeginsParts, IsLayoutFault as IsPartsFault}
use Rattle.wv_class.specs.declared.raw_class.Kind.TheVariants as kinds
use Rattle.wv_class.specs.declared.raw_class.Content.{Content}
use Rattle.wv_class.specs.declared.raw_class.Content.TheVariants as contents
use Rattle.wv_class.specs.Kinds.{kind_of}
use Rattle.wv_class.specs.Layout.{Begins, SpellsParts, SpellsLists, SpellsContent}
use Rattle.wv_class.specs.Lengths.{AllowsLength}
use Rattle.wv_class.specs.Contents.{SpellsSized}
use Rattle.wv_class.specs.Reading.{Taken, Stopped}
use Rattle.wv_class.proofs.Cuts.{cut_size, cut_stops, begins_parts, parts_begin, parts_size}
use Rattle.wv_class.proofs.ShallowParts.{parts_less}

lists_of : (pool : List PoolEntry) (visible : Bool) (near : ℕ) (x : Content) (t : List ℕ) → kinds.ParameterAnnotations visible ≡ kind_of x → SpellsContent near pool x t → (parts : List Mark) × SpellsLists near parts t
lists_of pool visible near (contents.ParameterAnnotations v parts) t k s = (parts, s)
lists_of pool visible near _ t k s = absurd cc

module _ (pool : List PoolEntry) (visible : Bool) (len : ℕ) (bytes : List ℕ) (small : len < 2 ^ 32) (fits : AllowsLength (kinds.ParameterAnnotations visible) len) (are : AreBytes bytes) where
  abbrev Sized : ℕ → Content → List ℕ → Type 0
  Sized = SpellsSized pool (kinds.ParameterAnnotations visible) len

  abbrev missing : ℕ
  missing = len - length bytes

  module _ (count : ℕ) (rest : List ℕ) (e : take len bytes ≡ count ∷ rest) where
    front_size : suc (length rest) + missing ≡ len
    front_size = omega (arith, ap length e, cut_size len bytes)

    rest_small : length rest + missing < 2 ^ 32
    rest_small = omega (arith, front_size, small)

    count_small : count < 256
    count_small = (subst AreBytes e (are_take len bytes are)).0

    -- the same for the bytes that are there, divided
    divided : (at : ℕ) → at ≤ suc (length rest) → (0 < at → Begins Sized (take at (count ∷ rest))) → (at < suc (length rest) → Begins Sized (take (at + 1) (count ∷ rest)) → ⊥)
        → (len ≤ length bytes → (x : Content) → Sized (suc (length rest)) x (count ∷ rest) → ⊥) → Stopped Sized bytes (length bytes - at)
    divided at =
        subst (λ (z : List ℕ). at ≤ length z → (0 < at → Begins Sized (take at z)) → (at < length z → Begins Sized (take (at + 1) z) → ⊥) → (len ≤ length bytes → (x : Content) → Sized (length z) x z → ⊥) → Stopped Sized bytes (length bytes - at)) e
        (cut_stops pool (kinds.ParameterAnnotations visible) len bytes small fits at)

    -- what begins with the count and bytes behind it begins lists
    begins_lists : (k : ℕ) → k ≤ length rest → Begins Sized (count ∷ take k rest) → BeginsParts (lists count) rest missing k
    begins_lists k le b =
        let s = b.spelled in
        let c = lists_of pool visible (length (count ∷ take k rest)) b.value (count ∷ (take k rest ++ b.more)) s.known s.is in
        let near : length (count ∷ take k rest) - 1 ≡ length (take k rest) = omega arith in
        begins_parts (lists count) rest missing rest_small k le c.0 b.more (omega (arith, s.long, front_size)) (subst (λ (i : ℕ). SpellsParts i (lists count) c.0 (take k rest ++ b.more)) near c.1.1)

    lists_begin : (k : ℕ) → k ≤ length rest → BeginsParts (lists count) rest missing k → Begins Sized (count ∷ take k rest)
    lists_begin k le b =
        let near : length (take k rest) ≡ length (count ∷ take k rest) - 1 = omega arith in
        record {
          value = contents.ParameterAnnotations visible b.parts;
          more = drop k (table_bytes b.parts);
          spelled = record {
            long = ap suc (parts_size (lists count) rest missing rest_small k le b) ∙ omega (arith, front_size);
            known = refl;
            is = (count_small, subst (λ (i : ℕ). SpellsParts i (lists count) b.parts (take k rest ++ drop k (table_bytes b.parts))) near (parts_begin (lists count) rest missing rest_small k le b));
          };
        }

    -- the bytes that are there, where they are all
    whole_lists : (x : Content) → Sized (suc (length rest)) x (count ∷ rest) → (parts : List Mark) × SpellsParts (length rest) (lists count) parts rest
    whole_lists x s =
        let c = lists_of pool visible (suc (length rest)) x (count ∷ rest) s.known s.is in
        let near : suc (length rest) - 1 ≡ length rest = omega arith in
        (c.0, subst (λ (i : ℕ). SpellsParts i (lists count) c.0 rest) near c.1.1)

    pub first_divided : (BeginsParts (lists count) rest missing 0 → ⊥) → Stopped Sized bytes (length bytes - 0)
    first_divided none = divided 0 (omega arith) (λ some. absurd (omega arith)) (λ lt b. none (begins_lists 0 (omega arith) b)) (λ le x s.
        let c = whole_lists x s in
        none (begins_parts (lists count) rest missing rest_small 0 (omega arith) c.0 rest (omega arith) (parts_less 0 (length rest) (lists count) c.0 rest (omega arith) c.1)))

    begins_at : (place k : ℕ) → k ≡ place → place ≤ length rest → BeginsParts (lists count) rest missing 0 → IsPartsFault (lists count) rest missing place → BeginsParts (lists count) rest missing k
    begins_at place zero same le start f = start
    begins_at place (suc k) same le start f = f.begins (suc k) (omega arith) (omega arith)

    pub behind_divided : (place : ℕ) → BeginsParts (lists count) rest missing 0 → IsPartsFault (lists count) rest missing place → Stopped Sized bytes (length bytes - suc place)
    behind_divided place start f =
        let further : suc place + 1 ≡ suc (place + 1) = omega arith in
        divided (suc place) (omega (arith, f.within))
        (λ some. lists_begin place f.within (begins_at place place refl f.within start f))
        (λ lt b. f.none (omega arith) (begins_lists (place + 1) (omega arith) (subst (λ (k : ℕ). Begins Sized (take k (count ∷ rest))) further b)))
        (λ le x s.
        let c = whole_lists x s in
        f.no_table (omega arith) c.0 (record { small = omega (arith, rest_small); follows = c.1.follows; spelled = c.1.spelled }))

  -- the bytes that are there have a count or none
  first_stops : (at : ℕ) → BreaksFirst (take len bytes) missing at → Stopped Sized bytes (length bytes - at)
  first_stops at f = subst (λ (k : ℕ). Stopped Sized bytes (length bytes - k)) (sym f.first) (go (take len bytes) refl)
    where
      go : (front : List ℕ) → take len bytes ≡ front → Stopped Sized bytes (length bytes - 0)
      go [] e = cut_stops pool (kinds.ParameterAnnotations visible) len bytes small fits 0 (omega arith) (λ some. absurd (omega arith)) (λ lt. absurd (omega (arith, ap length e))) (λ le x s. absurd (omega (arith, s.long, ap length e, some_length fits)))
        where
          some_length : AllowsLength (kinds.ParameterAnnotations visible) len → 1 ≤ len
          some_length (inl odd) = omega arith
          some_length (inr large) = omega arith
      go (count ∷ rest) e = first_divided count rest e (λ b. f.none (omega (arith, cut_size len bytes, small)) count rest e b)

  behind_stops : (at : ℕ) → BreaksBehind (take len bytes) missing at → Stopped Sized bytes (length bytes - at)
  behind_stops at f = subst (λ (k : ℕ). Stopped Sized bytes (length bytes - k)) (sym (f.later ∙ add-one f.place)) (behind_divided f.count f.rest f.starts f.place f.begins f.fault)

  pub parameters_stops : (at : ℕ) → BreaksFirst (take len bytes) missing at ⊎ BreaksBehind (take len bytes) missing at → Stopped Sized bytes (length bytes - at)
  parameters_stops at (inl f) = first_stops at f
  parameters_stops at (inr f) = behind_stops at f

  pub parameters_takes : (parts : List Mark) → missing ≡ 0 → IsParameterTable (take len bytes) parts → Taken Sized bytes (contents.ParameterAnnotations visible parts) (drop len bytes)
  parameters_takes parts none is =
      let near : length is.rest ≡ length (is.count ∷ is.rest) - 1 = omega arith in
      let whole : SpellsLists (length (is.count ∷ is.rest)) parts (is.count ∷ is.rest) =
      (count_small is.count is.rest is.starts, subst (λ (i : ℕ). SpellsParts i (lists is.count) parts is.rest) near (record { follows = is.table.follows; spelled = is.table.spelled })) in
      record {
        text = take len bytes;
        parts = sym (take-append-drop len bytes);
        spelled = record { long = length-take-le len bytes (omega (arith, none)); known = refl; is = subst (λ (z : List ℕ). SpellsLists (length z) parts z) (sym is.starts) whole };
      }
