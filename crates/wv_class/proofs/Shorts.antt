-- Numbers of two bytes.
use Rattle.std.proofs.Common.{◌≡◌, ℕ, zero, suc, ◌+◌, ◌*◌, ◌^◌, ◌<◌, ◌≤◌, List, [], ◌∷◌, ◌++◌, length, get_or, take, refl, sym, ap, subst, ◌∙◌, arith}
use Rattle.std.proofs.lemmas.Nat.{from_be_bytes-to_be_bytes_2}
use Rattle.std.proofs.lemmas.List.{append-nil, length-append}
use Rattle.wv_pool.specs.Reading.{number}
use Rattle.wv_pool.specs.Entries.{number_bytes}
use Rattle.wv_frames.proofs.Tags.{pair_number}
use Rattle.wv_class.specs.declared.number.Three.{Three}
use Rattle.wv_class.specs.Layout.{Begins}
use Rattle.wv_class.specs.Numbers.{SpellsShort, SpellsThree}
use Rattle.wv_class.specs.Reading.{Stopped, Taken}
use Rattle.wv_class.proofs.Grammars.{IsGrammar, Then, Was, Alike, then_grammar, was_grammar, alike_grammar, alike_stops, was_stops, first_stops, second_stops}

abbrev pub IsBytes : List ℕ → Type 0
IsBytes bytes = (i : ℕ) → get_or bytes i 0 < 256

pub short_value : (x y : ℕ) (p q : List ℕ) → x < 2 ^ 16 → y < 2 ^ 16 → number_bytes x ++ p ≡ number_bytes y ++ q → x ≡ y
short_value x y p q lt less e = sym (from_be_bytes-to_be_bytes_2 x lt) ∙ ap (λ (z : List ℕ). number (take 2 z)) e ∙ from_be_bytes-to_be_bytes_2 y less

pub short_grammar : IsGrammar SpellsShort
short_grammar = record {
  same = λ m n x y t u p q e a b.
      let v = short_value x y p q a.0 b.0 (ap (λ (z : List ℕ). z ++ p) (sym a.1) ∙ e ∙ ap (λ (z : List ℕ). z ++ q) b.1) in
      (v, a.1 ∙ ap number_bytes v ∙ sym b.1);
  full = λ n x t a. a;
  less = λ m n x t le a. a;
  value = 0;
  text = number_bytes 0;
  some = (omega arith, refl);
}

short_begun : (bytes : List ℕ) → IsBytes bytes → length bytes < 2 → Begins SpellsShort bytes
short_begun [] fits lt = record { value = 0; more = number_bytes 0; spelled = (omega arith, refl) }
short_begun (h ∷ []) fits lt = record { value = h * 256 + 0; more = 0 ∷ []; spelled = pair_number h 0 (fits 0) (omega arith) }
short_begun (h ∷ l ∷ bytes) fits lt = absurd (omega arith)

pub short_stops : (bytes : List ℕ) → IsBytes bytes → length bytes < 2 → Stopped SpellsShort bytes 0
short_stops bytes fits lt = record {
  front = bytes;
  back = [];
  parts = sym (append-nil bytes);
  place = refl;
  begun = short_begun bytes fits lt;
  none = λ b others e. absurd cc;
  no_item = λ value text rest e s. absurd (omega (arith, ap length e, length-append text rest, ap length s.1));
}

-- ---- three of them

abbrev three_of : ℕ → ℕ → ℕ → Three
three_of a b c = record { first = a; second = b; third = c }

abbrev pub Third : ℕ → ℕ → ℕ → Three → List ℕ → Type 0
Third a b = Was (three_of a b) SpellsShort

abbrev pub Second : ℕ → ℕ → Three → List ℕ → Type 0
Second a = Then SpellsShort (Third a)

abbrev pub Threes : ℕ → Three → List ℕ → Type 0
Threes = Then SpellsShort Second

pub third_grammar : (a b : ℕ) → IsGrammar (Third a b)
third_grammar a b = was_grammar (three_of a b) SpellsShort short_grammar

pub second_grammar : (a : ℕ) → IsGrammar (Second a)
second_grammar a = then_grammar SpellsShort (Third a) short_grammar (λ n x t s. third_grammar a x)

threes_grammar : IsGrammar Threes
threes_grammar = then_grammar SpellsShort Second short_grammar (λ n x t s. second_grammar x)

threes_to : (near : ℕ) (three : Three) (t : List ℕ) → Threes near three t → SpellsThree near three t
threes_to near three t s =
    let u = s.second_is in
    let w = u.second_is in
    subst (λ (z : Three). SpellsThree near z t) (sym w.is) (record {
      first = s.first_is.0;
      second = u.first_is.0;
      third = w.spelled.0;
      spelled = s.parts ∙ ap (λ (z : List ℕ). z ++ s.back) s.first_is.1 ∙ ap (λ (z : List ℕ). number_bytes s.first ++ z) (u.parts ∙ ap (λ (z : List ℕ). z ++ u.back) u.first_is.1 ∙ ap (λ (z : List ℕ). number_bytes u.first ++ z) w.spelled.1);
    })

threes_from : (near : ℕ) (three : Three) (t : List ℕ) → SpellsThree near three t → Threes near three t
threes_from near three t s = record {
  first = three.first;
  front = number_bytes three.first;
  back = number_bytes three.second ++ number_bytes three.third;
  parts = s.spelled;
  first_is = (s.first, refl);
  second_is = record {
    first = three.second;
    front = number_bytes three.second;
    back = number_bytes three.third;
    parts = refl;
    first_is = (s.second, refl);
    second_is = record { from = three.third; is = refl; spelled = (s.third, refl) };
  };
}

pub threes : Alike Threes SpellsThree
threes = record { there = threes_to; back = threes_from }

pub three_grammar : IsGrammar SpellsThree
three_grammar = alike_grammar threes threes_grammar

pub first_of_three : (bytes : List ℕ) (left : ℕ) → Stopped SpellsShort bytes left → Stopped SpellsThree bytes left
first_of_three bytes left s = alike_stops threes bytes left (first_stops SpellsShort Second short_grammar (λ n x t s. second_grammar x) bytes left s)

pub second_of_three : (bytes rest : List ℕ) (a left : ℕ) → Taken SpellsShort bytes a rest → Stopped SpellsShort rest left → Stopped SpellsThree bytes left
second_of_three bytes rest a left t s = alike_stops threes bytes left (second_stops SpellsShort Second short_grammar bytes a rest left t (first_stops SpellsShort (Third a) short_grammar (λ n x t s. third_grammar a x) rest left s))

pub third_of_three : (bytes rest after : List ℕ) (a b left : ℕ) → Taken SpellsShort bytes a rest → Taken SpellsShort rest b after → Stopped SpellsShort after left → Stopped SpellsThree bytes left
third_of_three bytes rest after a b left t u s =
    alike_stops threes bytes left (second_stops SpellsShort Second short_grammar bytes a rest left t (second_stops SpellsShort (Third a) short_grammar rest b after left u (was_stops (three_of a b) SpellsShort after left s)))
