-- Numbers of which not every value is allowed.
use Rattle.std.proofs.Common.{◌≡◌, ℕ, zero, suc, ◌+◌, ◌-◌, ◌^◌, ◌<◌, ◌≤◌, List, [], ◌∷◌, ◌++◌, length, take, drop, refl, sym, ap, subst, ◌∙◌, append_assoc, ◌⊎◌, inl, inr, arith}
use Rattle.std.specs.List.{AllByRecursion}
use Rattle.std.proofs.lemmas.List.{append-nil, length-append, length-take-le, length-drop, take-append-drop, take-append-le, take_at}
use Rattle.std.proofs.Math.Seq.{take-append-add}
use Rattle.wv_room.specs.Number.{number_of, BeginsWith, IsFirstFault}
use Rattle.wv_code.proofs.Numbers.{AreBytes, are_append, are_take, digits_of}
use Rattle.wv_class.specs.Layout.{Begins}
use Rattle.wv_class.specs.Numbers.{SpellsAllowed}
use Rattle.wv_class.specs.Reading.{Taken, Stopped}
use Rattle.wv_class.proofs.Grammars.{IsGrammar}

are_drop : (n : ℕ) (bytes : List ℕ) → AreBytes bytes → AreBytes (drop n bytes)
are_drop zero bytes h = h
are_drop (suc n) [] h = tt
are_drop (suc n) (b ∷ bytes) h = are_drop n bytes h.1

are_front : (front back : List ℕ) → AreBytes (front ++ back) → AreBytes front
are_front [] back h = tt
are_front (b ∷ front) back h = (h.0, are_front front back h.1)

are_back : (front back : List ℕ) → AreBytes (front ++ back) → AreBytes back
are_back [] back h = h
are_back (b ∷ front) back h = are_back front back h.1

-- of one length in front of the same bytes
pub same_length : (t u p q : List ℕ) → length t ≡ length u → t ++ p ≡ u ++ q → t ≡ u
same_length t u p q long e = sym (take_at t p (length t) refl) ∙ ap (take (length t)) e ∙ take_at u q (length t) (sym long)

-- the bytes before a place and the one that stands there
pub one_longer : (bytes : List ℕ) (place b : ℕ) (others : List ℕ) → place ≤ length bytes → drop place bytes ≡ b ∷ others → take (place + 1) bytes ≡ take place bytes ++ b ∷ []
one_longer bytes place b others read e =
    let all : bytes ≡ take place bytes ++ (b ∷ others) = sym (take-append-drop place bytes) ∙ ap (λ (z : List ℕ). take place bytes ++ z) e in
    let long : length (take place bytes) ≡ place = length-take-le place bytes read in
    ap (take (place + 1)) (all ∙ sym (append_assoc (take place bytes) (b ∷ []) others)) ∙ take_at (take place bytes ++ b ∷ []) others (place + 1) (length-append (take place bytes) (b ∷ []) ∙ omega (arith, long))

module _ (width : ℕ) (allows : ℕ → Type 0) where
  pub allowed_grammar : (n : ℕ) → n < 256 ^ width → allows n → IsGrammar (SpellsAllowed width allows)
  allowed_grammar n lt is =
      let d = digits_of width n lt in
      record {
        same = λ m k x y t u p q e a b. let s = same_length t u p q (a.wide ∙ sym b.wide) e in (a.spelled ∙ ap number_of s ∙ sym b.spelled, s);
        full = λ k x t a. record { wide = a.wide; small = a.small; spelled = a.spelled; allowed = a.allowed };
        less = λ m k x t le a. record { wide = a.wide; small = a.small; spelled = a.spelled; allowed = a.allowed };
        value = n;
        text = d.text;
        some = record { wide = d.long; small = d.bytes; spelled = sym d.spelled; allowed = is };
      }

  pub allowed_taken : (bytes : List ℕ) (n : ℕ) → AreBytes bytes → width ≤ length bytes → n ≡ number_of (take width bytes) → allows n → Taken (SpellsAllowed width allows) bytes n (drop width bytes)
  allowed_taken bytes n are long spelled is = record {
    text = take width bytes;
    parts = sym (take-append-drop width bytes);
    spelled = record { wide = length-take-le width bytes long; small = are_take width bytes are; spelled = spelled; allowed = is };
  }

  begun_at : (front : List ℕ) → AreBytes front → (n : ℕ) × allows n × BeginsWith width front n → Begins (SpellsAllowed width allows) front
  begun_at front are g =
      let b = g.2 in
      record {
        value = g.0;
        more = b.rest;
        spelled = record { wide = length-append front b.rest ∙ b.wide; small = are_append front b.rest are b.bytes; spelled = b.spelled; allowed = g.1 };
      }

  started : (place : ℕ) (bytes : List ℕ) → AreBytes bytes → (n : ℕ) → n < 256 ^ width → allows n → (0 < place → (n : ℕ) × allows n × BeginsWith width (take place bytes) n) → Begins (SpellsAllowed width allows) (take place bytes)
  started zero bytes are n lt is begun = let d = digits_of width n lt in record { value = n; more = d.text; spelled = record { wide = d.long; small = d.bytes; spelled = sym d.spelled; allowed = is } }
  started (suc place) bytes are n lt is begun = begun_at (take (suc place) bytes) (are_take (suc place) bytes are) (begun (omega arith))

  -- an allowed number that begins with the bytes
  begins_with : (front more : List ℕ) (near n : ℕ) → SpellsAllowed width allows near n (front ++ more) → BeginsWith width front n
  begins_with front more near n a = record { rest = more; bytes = are_back front more a.small; wide = sym (length-append front more) ∙ a.wide; spelled = a.spelled }

  pub allowed_stops : (bytes : List ℕ) (place n : ℕ) → AreBytes bytes → n < 256 ^ width → allows n → IsFirstFault allows width bytes place → Stopped (SpellsAllowed width allows) bytes (length bytes - place)
  allowed_stops bytes place n are lt is f = record {
    front = take place bytes;
    back = drop place bytes;
    parts = sym (take-append-drop place bytes);
    place = sym (length-drop place bytes);
    begun = started place bytes are n lt is f.begun;
    none = λ b others e begins. elim f.stopped [
      | inl ended ↦ absurd (omega (arith, ended, ap length e, length-drop place bytes))
      | inr never ↦ never begins.value begins.spelled.allowed (subst (λ (z : List ℕ). BeginsWith width z begins.value) (sym (one_longer bytes place b others f.read e)) (begins_with (take place bytes ++ b ∷ []) begins.more (length (take place bytes ++ b ∷ [])) begins.value begins.spelled))
    ];
    no_item = λ value text rest e a.
        let long : length bytes ≡ width + length rest = ap length e ∙ length-append text rest ∙ ap (λ (k : ℕ). k + length rest) a.wide in
        elim f.stopped [
          | inl ended ↦ absurd (omega (arith, ended, f.within))
          | inr never ↦
              let within : place + 1 ≤ length text = omega (arith, a.wide, f.within) in
              let front : take (place + 1) bytes ≡ take (place + 1) text = ap (take (place + 1)) e ∙ take-append-le (place + 1) text rest within in
              let parts : take (place + 1) text ++ drop (place + 1) text ≡ text = take-append-drop (place + 1) text in
              never value a.allowed
              (subst (λ (z : List ℕ). BeginsWith width z value) (sym front)
              (begins_with (take (place + 1) text) (drop (place + 1) text) (length text) value (subst (λ (z : List ℕ). SpellsAllowed width allows (length text) value z) (sym parts) a)))
        ];
  }
