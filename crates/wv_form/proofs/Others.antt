-- Names of other mixins in a class.
use Rattle.std.proofs.Common.{◌≡◌, ◌&&◌, ℕ, Bool, true, false, not, List, Contains, Option, Some, None, bytes_eq, refl, ap, sym, ◌∙◌, true≢false}
use Rattle.std.specs.Borrow.{Bor}
use Rattle.std.specs.BTreeSet.{BTreeSet}
use Rattle.std.specs.List.{list_any}
use Rattle.std.proofs.lemmas.List.Folds.{Any-from_list_any, list_any_at}
use Rattle.wv_classes.specs.Refusal.{IsTextOf}
use Rattle.wv_classes.specs.Roots.{has}
use Rattle.wv_form.specs.Mention.{text_of_name, is_other, names_other}
use Rattle.wv_form.proofs.NameTexts.{text-is, is-text}
use Rattle.wv_form.proofs.PlaceTables.{other-text, text-itself}

pub both : (b c : Bool) → b ≡ true → c ≡ true → (b && c) ≡ true
both true true e f = refl
both true false e f = f
both false c e f = absurd (true≢false (sym e))

pub left : (b c : Bool) → (b && c) ≡ true → b ≡ true
left true c e = refl
left false c e = e

pub right : (b c : Bool) → (b && c) ≡ true → c ≡ true
right true c e = e
right false c e = absurd (true≢false (sym e))

module _ (names : BTreeSet (Bor (List ℕ))) (own : List ℕ) where
  -- the units spell a text that is among the names, and another one than one's own
  pub record IsNamed (units text : List ℕ) : Type 0 where
    pub spells : IsTextOf units text
    pub there : has names text ≡ true
    pub differs : text ≡ own → ⊥

  other-of : (units : List ℕ) (o : Option (List ℕ)) → text_of_name units ≡ o → is_other names own o ≡ true → (text : List ℕ) × IsNamed units text
  other-of units None e t = absurd (true≢false (sym t))
  other-of units (Some text) e t = (
    text,
    record {
      spells = text-is units text e;
      there = left (has names text) (not (bytes_eq text own)) t;
      differs = λ same. true≢false (sym (right (has names text) (not (bytes_eq text own)) t) ∙ ap not (text-itself text own same));
    },
  )

  -- a name that passes is that of another mixin
  other-named : (units : List ℕ) → names_other names own units ≡ true → (text : List ℕ) × IsNamed units text
  unfolding names_other
  other-named units t = other-of units (text_of_name units) refl t

  -- and the name of another mixin passes
  named-other : (units text : List ℕ) → IsNamed units text → names_other names own units ≡ true
  unfolding names_other
  named-other units text h =
      ap (is_other names own) (is-text units text h.spells)
      ∙ both (has names text) (not (bytes_eq text own)) h.there (ap not (other-text text own h.differs))

  -- ---- Among the names in a class

  pub some-other : (classes : List (List ℕ)) → list_any (names_other names own) classes ≡ true → (units : List ℕ) × Contains classes units × ((text : List ℕ) × IsNamed units text)
  some-other classes t =
      let (k, units, inside, at, passes) = Any-from_list_any (names_other names own) classes t in
      (units, (k, inside, at), other-named units passes)

  pub none-other : (classes : List (List ℕ)) (units text : List ℕ) → list_any (names_other names own) classes ≡ false → Contains classes units → IsNamed units text → ⊥
  none-other classes units text none (k, inside, at) h =
      true≢false (sym (list_any_at (names_other names own) classes k units inside (ap (names_other names own) at ∙ named-other units text h)) ∙ none)

  -- ---- The test

  pub passes : (units text : List ℕ) (result : Bool) → text_of_name units ≡ Some text → result ≡ (has names text && not (bytes_eq text own)) → result ≡ names_other names own units
  unfolding names_other
  passes units text result spells is = is ∙ sym (ap (is_other names own) spells)

  pub fails : (units : List ℕ) → text_of_name units ≡ None → false ≡ names_other names own units
  unfolding names_other
  fails units spells = sym (ap (is_other names own) spells)
