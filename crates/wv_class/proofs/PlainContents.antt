-- The contents that are numbers or bytes.
use Rattle.std.proofs.Common.{◌≡◌, ℕ, zero, suc, ◌+◌, ◌-◌, ◌*◌, ◌^◌, ◌<◌, ◌≤◌, List, [], ◌∷◌, ◌++◌, length, replicate, refl, sym, subst, ap, ◌∙◌, arith}
use Rattle.std.specs.List.{flat_map, AllByRecursion}
use Rattle.std.proofs.lemmas.List.{append-nil, length-append, length-replicate}
use Rattle.wv_base.specs.declared.class_file.PoolEntry.{PoolEntry}
use Rattle.wv_pool.specs.Entries.{number_bytes}
use Rattle.wv_code.proofs.Numbers.{AreBytes, are_append}
use Rattle.wv_class.specs.declared.raw_class.Kind.{Kind}
use Rattle.wv_class.specs.declared.raw_class.Kind.TheVariants as kinds
use Rattle.wv_class.specs.declared.raw_class.Content.{Content}
use Rattle.wv_class.specs.declared.raw_class.Content.TheVariants as contents
use Rattle.wv_class.specs.Kinds.{kind_of}
use Rattle.wv_class.specs.Layout.{numbers_bytes, AreNumbers, SpellsContent}
use Rattle.wv_class.specs.Contents.{SpellsSized}
use Rattle.wv_class.specs.Numbers.{SpellsShort, SpellsExactly, SpellsTimes}
use Rattle.wv_class.specs.Reading.{Taken, Stopped}
use Rattle.wv_class.proofs.Grammars.{IsGrammar, Then, Was, Alike, was_grammar, was_takes, was_stops, alike_stops, alike_takes, then_takes, first_stops, second_stops}
use Rattle.wv_class.proofs.Shorts.{short_grammar}
use Rattle.wv_class.proofs.Times.{times_grammar}
use Rattle.wv_class.proofs.Allowed.{allowed_grammar}
use Rattle.wv_class.proofs.Numbered.{shorts_are, are_shorts, numbers_long}
use Rattle.wv_class.proofs.AllowedNumbers.{two_is, is_two}

module _ (pool : List PoolEntry) where
  -- ---- the value of a field

  constant_from : (near : ℕ) (x : Content) (t : List ℕ) → kinds.ConstantValue ≡ kind_of x → SpellsContent near pool x t → Was (λ (n : ℕ). contents.ConstantValue n) SpellsShort near x t
  constant_from near (contents.ConstantValue n) t k s = record { from = n; is = refl; spelled = s }
  constant_from near _ t k s = absurd cc

  constant_to : (near : ℕ) (x : Content) (t : List ℕ) → Was (λ (n : ℕ). contents.ConstantValue n) SpellsShort near x t → SpellsSized pool kinds.ConstantValue 2 near x t
  constant_to near x t w = subst (λ (z : Content). SpellsSized pool kinds.ConstantValue 2 near z t) (sym w.is) (record { long = ap length w.spelled.1; known = refl; is = w.spelled })

  constant_alike : Alike (Was (λ (n : ℕ). contents.ConstantValue n) SpellsShort) (SpellsSized pool kinds.ConstantValue 2)
  constant_alike = record { there = constant_to; back = λ near x t s. constant_from near x t s.known s.is }

  pub constant_stops : (bytes : List ℕ) (left : ℕ) → Stopped SpellsShort bytes left → Stopped (SpellsSized pool kinds.ConstantValue 2) bytes left
  constant_stops bytes left s = alike_stops constant_alike bytes left (was_stops (λ (n : ℕ). contents.ConstantValue n) SpellsShort bytes left s)

  pub constant_takes : (bytes : List ℕ) (n : ℕ) (rest : List ℕ) → Taken SpellsShort bytes n rest → Taken (SpellsSized pool kinds.ConstantValue 2) bytes (contents.ConstantValue n) rest
  constant_takes bytes n rest t = alike_takes constant_alike bytes (contents.ConstantValue n) rest (was_takes (λ (n : ℕ). contents.ConstantValue n) SpellsShort bytes n rest t)

  -- ---- the classes that are thrown

  module _ (k len : ℕ) (small : k < 2 ^ 16) (long : len ≡ 2 + 2 * k) where
    abbrev Thrown : ℕ → ℕ → Content → List ℕ → Type 0
    Thrown n = Was (λ (xs : List ℕ). contents.Exceptions xs) (SpellsTimes SpellsShort n)

    abbrev AllThrown : ℕ → Content → List ℕ → Type 0
    AllThrown = Then (SpellsExactly 2 k) Thrown

    thrown_grammar : (n : ℕ) → IsGrammar (Thrown n)
    thrown_grammar n = was_grammar (λ (xs : List ℕ). contents.Exceptions xs) (SpellsTimes SpellsShort n) (times_grammar SpellsShort short_grammar n)

    exact_grammar : IsGrammar (SpellsExactly 2 k)
    exact_grammar = allowed_grammar 2 (λ n. n ≡ k) k (omega (arith, small)) refl

    thrown_to : (near : ℕ) (x : Content) (t : List ℕ) → AllThrown near x t → SpellsSized pool kinds.Exceptions len near x t
    thrown_to near x t s =
        let w = s.second_is in
        let items = w.spelled in
        let first = two_is (λ n. n ≡ k) near s.first s.front s.first_is in
        let r = shorts_are items.all in
        let count : length w.from ≡ k = items.many ∙ s.first_is.allowed in
        let whole : t ≡ numbers_bytes w.from = s.parts ∙ ap (λ (z : List ℕ). z ++ s.back) (first.1 ∙ ap number_bytes (sym items.many)) ∙ ap (λ (z : List ℕ). number_bytes (length w.from) ++ z) r.1 in
        subst (λ (z : Content). SpellsSized pool kinds.Exceptions len near z t) (sym w.is)
        (record { long = ap length whole ∙ numbers_long w.from ∙ omega (arith, count, long); known = refl; is = ((omega (arith, count, small), r.0), whole) })

    thrown_from : (near : ℕ) (x : Content) (t : List ℕ) → length t ≡ len → kinds.Exceptions ≡ kind_of x → SpellsContent near pool x t → AllThrown near x t
    thrown_from near (contents.Exceptions xs) t wide known s =
        let count : length xs ≡ k = omega (arith, wide, ap length s.1, numbers_long xs, long) in
        record {
          first = length xs;
          front = number_bytes (length xs);
          back = flat_map number_bytes xs;
          parts = s.1;
          first_is = is_two (λ n. n ≡ k) near (length xs) (number_bytes (length xs)) s.0.0 refl count;
          second_is = record { from = xs; is = refl; spelled = record { many = refl; all = are_shorts (near - length (number_bytes (length xs))) xs s.0.1 } };
        }
    thrown_from near _ t wide known s = absurd cc

    thrown_alike : Alike AllThrown (SpellsSized pool kinds.Exceptions len)
    thrown_alike = record { there = thrown_to; back = λ near x t s. thrown_from near x t s.long s.known s.is }

    pub thrown_count_stops : (bytes : List ℕ) (left : ℕ) → Stopped (SpellsExactly 2 k) bytes left → Stopped (SpellsSized pool kinds.Exceptions len) bytes left
    thrown_count_stops bytes left s = alike_stops thrown_alike bytes left (first_stops (SpellsExactly 2 k) Thrown exact_grammar (λ m n t s. thrown_grammar n) bytes left s)

    pub thrown_stops : (bytes : List ℕ) (n : ℕ) (rest : List ℕ) (left : ℕ) → Taken (SpellsExactly 2 k) bytes n rest → Stopped (SpellsTimes SpellsShort n) rest left → Stopped (SpellsSized pool kinds.Exceptions len) bytes left
    thrown_stops bytes n rest left t s =
        alike_stops thrown_alike bytes left (second_stops (SpellsExactly 2 k) Thrown exact_grammar bytes n rest left t (was_stops (λ (xs : List ℕ). contents.Exceptions xs) (SpellsTimes SpellsShort n) rest left s))

    pub thrown_takes : (bytes : List ℕ) (n : ℕ) (rest : List ℕ) (xs : List ℕ) (after : List ℕ) → Taken (SpellsExactly 2 k) bytes n rest → Taken (SpellsTimes SpellsShort n) rest xs after → Taken (SpellsSized pool kinds.Exceptions len) bytes (contents.Exceptions xs) after
    thrown_takes bytes n rest xs after t u =
        alike_takes thrown_alike bytes (contents.Exceptions xs) after (then_takes (SpellsExactly 2 k) Thrown exact_grammar bytes n rest (contents.Exceptions xs) after t (was_takes (λ (xs : List ℕ). contents.Exceptions xs) (SpellsTimes SpellsShort n) rest xs after u))

  -- ---- bytes

  other_from : (near len : ℕ) (x : Content) (t : List ℕ) → kinds.Other ≡ kind_of x → SpellsContent near pool x t → x ≡ contents.Other t
  other_from near len (contents.Other b) t k s = ap (λ (z : List ℕ). contents.Other z) (sym s.1)
  other_from near len _ t k s = absurd cc

  zero_bytes : (n : ℕ) → AreBytes (replicate n 0)
  zero_bytes zero = tt
  zero_bytes (suc n) = (omega arith, zero_bytes n)

  pub other_stops : (len : ℕ) (bytes : List ℕ) → AreBytes bytes → length bytes < len → Stopped (SpellsSized pool kinds.Other len) bytes 0
  other_stops len bytes are lt =
      let more : List ℕ = replicate (len - length bytes) 0 in
      record {
        front = bytes;
        back = [];
        parts = sym (append-nil bytes);
        place = refl;
        begun = record {
          value = contents.Other (bytes ++ more);
          more = more;
          spelled = record {
            long = length-append bytes more ∙ omega (arith, length-replicate {A = ℕ} (len - length bytes) 0, lt);
            known = refl;
            is = (are_append bytes more are (zero_bytes (len - length bytes)), refl);
          };
        };
        none = λ b others e. absurd cc;
        no_item = λ value text rest e s. absurd (omega (arith, ap length e, length-append text rest, s.long));
      }

  pub other_takes : (len : ℕ) (bytes text rest : List ℕ) → AreBytes text → bytes ≡ text ++ rest → length text ≡ len → Taken (SpellsSized pool kinds.Other len) bytes (contents.Other text) rest
  other_takes len bytes text rest are e long = record { text = text; parts = e; spelled = record { long = long; known = refl; is = (are, refl) } }
