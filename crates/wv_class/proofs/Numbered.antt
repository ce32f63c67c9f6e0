-- Numbers of two bytes, one behind the other, by their count.
use Rattle.std.proofs.Common.{◌≡◌, ℕ, ◌+◌, ◌-◌, ◌*◌, ◌^◌, ◌<◌, List, [], ◌∷◌, ◌++◌, length, refl, sym, subst, ap, ◌∙◌, arith}
use Rattle.std.specs.List.{flat_map, AllByRecursion}
use Rattle.std.proofs.lemmas.List.{length-append}
use Rattle.std.proofs.lemmas.List.Concat.{flat_map-cons}
use Rattle.wv_pool.specs.Entries.{number_bytes}
use Rattle.wv_class.specs.Layout.{SpellsAll, none, next, SpellsTable, numbers_bytes, AreNumbers}
use Rattle.wv_class.specs.Numbers.{SpellsShort}
use Rattle.wv_class.proofs.Grammars.{IsGrammar}
use Rattle.wv_class.proofs.Shorts.{short_grammar}
use Rattle.wv_class.proofs.Times.{table_grammar}

pub shorts_are : {near : ℕ} {xs : List ℕ} {t : List ℕ} → SpellsAll SpellsShort near xs t → AllByRecursion (λ n. n < 2 ^ 16) xs × (t ≡ flat_map number_bytes xs)
shorts_are none = (tt, refl)
shorts_are (next {near} {x} {xs} {front} {back} s all) =
    let r = shorts_are all in
    ((s.0, r.0), ap (λ (z : List ℕ). z ++ back) s.1 ∙ ap (λ (z : List ℕ). number_bytes x ++ z) r.1 ∙ sym (flat_map-cons number_bytes x xs))

pub are_shorts : (near : ℕ) (xs : List ℕ) → AllByRecursion (λ n. n < 2 ^ 16) xs → SpellsAll SpellsShort near xs (flat_map number_bytes xs)
are_shorts near [] h = none
are_shorts near (x ∷ xs) h = subst (λ (z : List ℕ). SpellsAll SpellsShort near (x ∷ xs) z) (sym (flat_map-cons number_bytes x xs)) (next (h.0, refl) (are_shorts (near - length (number_bytes x)) xs h.1))

pub numbers_are : (near : ℕ) (xs t : List ℕ) → SpellsTable SpellsShort near xs t → AreNumbers xs × (t ≡ numbers_bytes xs)
numbers_are near xs t s = let r = shorts_are s.all in ((s.few, r.0), s.spelled ∙ ap (λ (z : List ℕ). number_bytes (length xs) ++ z) r.1)

pub are_numbers : (near : ℕ) (xs t : List ℕ) → AreNumbers xs → t ≡ numbers_bytes xs → SpellsTable SpellsShort near xs t
are_numbers near xs t h e = record { few = h.0; items = flat_map number_bytes xs; all = are_shorts (near - 2) xs h.1; spelled = e }

flat_long : (xs : List ℕ) → length (flat_map number_bytes xs) ≡ 2 * length xs
flat_long [] = refl
flat_long (x ∷ xs) = ap length (flat_map-cons number_bytes x xs) ∙ length-append (number_bytes x) (flat_map number_bytes xs) ∙ omega (arith, flat_long xs)

pub numbers_long : (xs : List ℕ) → length (numbers_bytes xs) ≡ 2 + 2 * length xs
numbers_long xs = length-append (number_bytes (length xs)) (flat_map number_bytes xs) ∙ omega (arith, flat_long xs)

pub numbers_same : (xs ys : List ℕ) → AreNumbers xs → AreNumbers ys → numbers_bytes xs ≡ numbers_bytes ys → xs ≡ ys
numbers_same xs ys a b e =
    ((table_grammar SpellsShort short_grammar).same 0 0 xs ys (numbers_bytes xs) (numbers_bytes ys) [] [] (ap (λ (z : List ℕ). z ++ []) e) (are_numbers 0 xs (numbers_bytes xs) a refl) (are_numbers 0 ys (numbers_bytes ys) b refl)).0
