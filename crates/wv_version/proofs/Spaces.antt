-- The words of a predicate's text, and a loop over them.
use Rattle.std.proofs.Common.{◌≡◌, ◌≢◌, ℕ, ◌<◌, ◌==◌, Bool, true, false, cond, List, [], ◌∷◌, ◌++◌, length, nat_lt, Option, Some, None, refl, ap, sym, ◌∙◌, subst, arith, append_assoc}
use Rattle.std.specs.List.{AllByRecursion, join_with_byte, onto_first}
use Rattle.std.proofs.lemmas.Bool.Decides.{nat_tests}
use Rattle.std.proofs.lemmas.List.{append-nil}
use Rattle.std.proofs.lemmas.List.Elements.{filter-append}
use Rattle.std.proofs.lemmas.List.Splits.{join_with_byte-slice_split}
use Rattle.wv_version.specs.declared.term.Term.{Term}
use Rattle.wv_version.specs.declared.predicate.Predicate.{Predicate}
use Rattle.wv_version.specs.Cut.{IsFree, IsCut}
use Rattle.wv_version.specs.Dots.{SpellsEach}
use Rattle.wv_version.specs.Term.{IsTerm}
use Rattle.wv_version.specs.Predicate.{words, IsPredicate}
use Rattle.wv_version.specs.Reading.{parts, parts_of}
use Rattle.wv_version.proofs.Cutting.{parts-cut, parts-join}

-- the parts that are done spell the terms so far
pub record IsReadTo (text : List ℕ) (rest : Option (List ℕ)) (terms : List Term) : Type 0 where
  pub done : List (List ℕ)
  pub split : parts 32 text ≡ done ++ parts_of 32 rest
  pub each : SpellsEach IsTerm (words done) terms

pub read_to-start : (text : List ℕ) → IsReadTo text (Some text) []
read_to-start text = record { done = []; split = refl; each = tt }

spells-push : (pieces : List (List ℕ)) (terms : List Term) (piece : List ℕ) (t : Term) → SpellsEach IsTerm pieces terms → IsTerm piece t → SpellsEach IsTerm (pieces ++ piece ∷ []) (terms ++ t ∷ [])
spells-push [] [] piece t h one = (one, tt)
spells-push [] (x ∷ terms) piece t h one = absurd h
spells-push (p ∷ pieces) [] piece t h one = absurd h
spells-push (p ∷ pieces) (x ∷ terms) piece t h one = (h.0, spells-push pieces terms piece t h.1 one)

spells-middle : (pieces : List (List ℕ)) (piece : List ℕ) (more : List (List ℕ)) (terms : List Term) → SpellsEach IsTerm (pieces ++ piece ∷ more) terms → (t : Term) × IsTerm piece t
spells-middle [] piece more [] h = absurd h
spells-middle [] piece more (t ∷ terms) h = (t, h.0)
spells-middle (p ∷ pieces) piece more [] h = absurd h
spells-middle (p ∷ pieces) piece more (t ∷ terms) h = spells-middle pieces piece more terms h.1

split_more : (text t piece : List ℕ) (after : Option (List ℕ)) (done : List (List ℕ)) → IsCut 32 t piece after → parts 32 text ≡ done ++ parts 32 t → parts 32 text ≡ done ++ piece ∷ parts_of 32 after
split_more text t piece after done cut split = split ∙ ap (λ xs. done ++ xs) (parts-cut 32 t piece after cut)

push_more : (done : List (List ℕ)) (piece : List ℕ) (more : List (List ℕ)) → done ++ piece ∷ more ≡ (done ++ piece ∷ []) ++ more
push_more done piece more = sym (append_assoc done (piece ∷ []) more)

-- an empty part is no word
pub read_to-skip : (text t piece : List ℕ) (after : Option (List ℕ)) (terms : List Term) → IsReadTo text (Some t) terms → IsCut 32 t piece after → piece ≡ [] → IsReadTo text after terms
read_to-skip text t piece after terms so_far cut empty = record {
  done = so_far.done ++ piece ∷ [];
  split = split_more text t piece after so_far.done cut so_far.split ∙ push_more so_far.done piece (parts_of 32 after);
  each = subst (λ ws. SpellsEach IsTerm ws terms) (sym kept) so_far.each;
}
  where
    kept : words (so_far.done ++ piece ∷ []) ≡ words so_far.done
    kept = filter-append (λ piece. nat_lt 0 (length piece)) so_far.done (piece ∷ []) ∙ ap (λ ws. words so_far.done ++ ws) (ap (λ p. words (p ∷ [])) empty) ∙ append-nil (words so_far.done)

word : (piece : List ℕ) (more : List (List ℕ)) → 0 < length piece → words (piece ∷ more) ≡ piece ∷ words more
word piece more some = let passes : nat_lt 0 (length piece) ≡ true = grind (arith, nat_tests) in rw passes refl

-- any other part is one
pub read_to-push : (text t piece : List ℕ) (after : Option (List ℕ)) (terms : List Term) (one : Term) → IsReadTo text (Some t) terms → IsCut 32 t piece after → 0 < length piece → IsTerm piece one → IsReadTo text after (terms ++ one ∷ [])
read_to-push text t piece after terms one so_far cut some h = record {
  done = so_far.done ++ piece ∷ [];
  split = split_more text t piece after so_far.done cut so_far.split ∙ push_more so_far.done piece (parts_of 32 after);
  each = subst (λ ws. SpellsEach IsTerm ws (terms ++ one ∷ [])) (sym pushed) (spells-push (words so_far.done) terms piece one so_far.each h);
}
  where
    pushed : words (so_far.done ++ piece ∷ []) ≡ words so_far.done ++ piece ∷ []
    pushed = filter-append (λ piece. nat_lt 0 (length piece)) so_far.done (piece ∷ []) ∙ ap (λ ws. words so_far.done ++ ws) (word piece [] some)

free_onto : (mark c : ℕ) (pieces : List (List ℕ)) → c ≢ mark → AllByRecursion (IsFree mark) pieces → AllByRecursion (IsFree mark) (onto_first c pieces)
free_onto mark c [] other h = ((other, tt), tt)
free_onto mark c (piece ∷ pieces) other h = ((other, h.0), h.1)

free_step : (mark c : ℕ) (more : List (List ℕ)) (b : Bool) → (c == mark) ≡ b → AllByRecursion (IsFree mark) more → AllByRecursion (IsFree mark) (cond b ([] ∷ more) (onto_first c more))
free_step mark c more true is h = (tt, h)
free_step mark c more false is h = free_onto mark c more (differ c mark is) h
  where
    differ : (c mark : ℕ) → (c == mark) ≡ false → c ≢ mark
    differ c mark is = grind (arith, nat_tests)

parts_free : (mark : ℕ) (text : List ℕ) → AllByRecursion (IsFree mark) (parts mark text)
parts_free mark [] = (tt, tt)
parts_free mark (c ∷ text) = free_step mark c (parts mark text) (c == mark) refl (parts_free mark text)

-- every part is done
pub read_to-end : (text : List ℕ) (terms : List Term) → IsReadTo text None terms → IsPredicate text (record { terms = terms })
read_to-end text terms h = record {
  pieces = parts 32 text;
  joined = sym (join_with_byte-slice_split 32 text);
  free = parts_free 32 text;
  each = subst (λ ps. SpellsEach IsTerm (words ps) terms) (sym (h.split ∙ append-nil h.done)) h.each;
}

-- the words of a text don't depend on the pieces
words_same : (text : List ℕ) (pieces : List (List ℕ)) → text ≡ join_with_byte 32 pieces → AllByRecursion (IsFree 32) pieces → words pieces ≡ words (parts 32 text)
words_same text [] joined free = rw joined refl
words_same text (p ∷ pieces) joined free = ap words (sym (parts-join 32 (p ∷ pieces) (omega arith) free) ∙ ap (parts 32) (sym joined))

-- a word that is no term
pub read_to-none : (text t piece : List ℕ) (after : Option (List ℕ)) (terms : List Term) → IsReadTo text (Some t) terms → IsCut 32 t piece after → 0 < length piece → ((one : Term) → IsTerm piece one → ⊥) → (p : Predicate) → IsPredicate text p → ⊥
read_to-none text t piece after terms so_far cut some none p h =
    let found = spells-middle (words so_far.done) piece (words (parts_of 32 after)) p.terms (subst (λ ws. SpellsEach IsTerm ws p.terms) whole h.each) in
    none found.0 found.1
  where
    whole : words h.pieces ≡ words so_far.done ++ piece ∷ words (parts_of 32 after)
    whole = words_same text h.pieces h.joined h.free ∙ ap words (split_more text t piece after so_far.done cut so_far.split) ∙ filter-append (λ piece. nat_lt 0 (length piece)) so_far.done (piece ∷ parts_of 32 after) ∙ ap (λ ws. words so_far.done ++ ws) (word piece (parts_of 32 after) some)

-- what the test of a length tells
pub some-from_test : (piece : List ℕ) (b : Bool) → b ≡ (length piece == 0) → b ≡ false → 0 < length piece
some-from_test piece b is other = grind (arith, nat_tests)

pub empty-from_test : (piece : List ℕ) (b : Bool) → b ≡ (length piece == 0) → b ≡ true → piece ≡ []
empty-from_test [] b is empty = refl
empty-from_test (x ∷ piece) b is empty = absurd (full (x ∷ piece) (omega arith) (sym is ∙ empty))
  where
    full : (piece : List ℕ) → 0 < length piece → (length piece == 0) ≡ true → ⊥
    full piece some none = grind (arith, nat_tests)
