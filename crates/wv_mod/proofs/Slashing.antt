-- The parts of a text between its dots, with slashes between them, are the text with slashes.
use Rattle.std.proofs.Common.{◌≡◌, ℕ, suc, ◌+◌, ◌<◌, ◌≤◌, ◌==◌, Bool, true, false, cond, append_assoc, List, [], ◌∷◌, ◌++◌, length, map, get_or, arith, refl, sym, ap, ◌∙◌}
use Rattle.std.specs.Borrow.{Bor}
use Rattle.std.specs.List.{slice_split, onto_first, join_with_byte, enumerate_from}
use Rattle.std.proofs.lemmas.List.FromFn.{get_or-enumerate_from, length-enumerate_from}
use Rattle.std.proofs.lemmas.List.Splits.{length-slice_split}
use Rattle.wv_mod.specs.Slashes.{with_slash, with_slashes}

-- the parts of a text between its dots
abbrev pub parts : List ℕ → List (List ℕ)
parts text = slice_split (λ byte. byte == 46) text

-- ---- Joined by slashes

slashed-more : (byte : ℕ) (pieces : List (List ℕ)) (dot : Bool) → 0 < length pieces
    → join_with_byte 47 (cond dot ([] ∷ pieces) (onto_first byte pieces)) ≡ cond dot 47 byte ∷ join_with_byte 47 pieces
slashed-more byte [] dot some = absurd (omega arith)
slashed-more byte (piece ∷ pieces) true some = refl
slashed-more byte (piece ∷ []) false some = refl
slashed-more byte (piece ∷ next ∷ pieces) false some = refl

joined-slashed : (text : List ℕ) → join_with_byte 47 (parts text) ≡ with_slashes text
joined-slashed [] = refl
joined-slashed (byte ∷ text) =
    slashed-more byte (parts text) (byte == 46) (omega (arith, length-slice_split (λ b. b == 46) text))
    ∙ ap (λ rest. with_slash byte ∷ rest) (joined-slashed text)

join-first : (pieces : List (List ℕ)) (piece : List ℕ) → length pieces ≤ 0 → join_with_byte 47 (pieces ++ piece ∷ []) ≡ join_with_byte 47 pieces ++ piece
join-first [] piece none = refl
join-first (first ∷ pieces) piece none = absurd (omega arith)

join-more : (pieces : List (List ℕ)) (piece : List ℕ) → 0 < length pieces → join_with_byte 47 (pieces ++ piece ∷ []) ≡ (join_with_byte 47 pieces ++ 47 ∷ []) ++ piece
join-more [] piece some = absurd (omega arith)
join-more (first ∷ []) piece some = sym (append_assoc first (47 ∷ []) piece)
join-more (first ∷ next ∷ pieces) piece some =
    ap (λ rest. first ++ 47 ∷ rest) (join-more (next ∷ pieces) piece (omega arith))
    ∙ ap (λ rest. first ++ 47 ∷ rest) (append_assoc (join_with_byte 47 (next ∷ pieces)) (47 ∷ []) piece)
    ∙ sym (append_assoc (first ++ 47 ∷ join_with_byte 47 (next ∷ pieces)) (47 ∷ []) piece ∙ append_assoc first (47 ∷ join_with_byte 47 (next ∷ pieces)) (47 ∷ piece))

-- ---- A loop over the parts with their places

-- the text of an item, and the item with its text
abbrev pub text_of : ℕ × Bor (List ℕ) → List ℕ
text_of item = item.1.now

abbrev read : ℕ × Bor (List ℕ) → ℕ × List ℕ
read item = (item.0, item.1.now)

-- the texts so far, with slashes between them
abbrev pub joined : List (ℕ × Bor (List ℕ)) → List ℕ
joined items = join_with_byte 47 (map text_of items)

unnumbered : (items : List (ℕ × Bor (List ℕ))) (n : ℕ) (pieces : List (List ℕ)) → map read items ≡ enumerate_from n pieces → map text_of items ≡ pieces
unnumbered [] n [] e = refl
unnumbered [] n (piece ∷ pieces) e = cc
unnumbered (item ∷ items) n [] e = cc
unnumbered (item ∷ items) n (piece ∷ pieces) e =
    let head : read item ≡ (n, piece) = cc in
    let rest : map read items ≡ enumerate_from (n + 1) pieces = cc in
    λ i. (head i).1 ∷ unnumbered items (n + 1) pieces rest i

pub joined-all : (items : List (ℕ × Bor (List ℕ))) (text : List ℕ) → map read items ≡ enumerate_from 0 (parts text) → joined items ≡ with_slashes text
joined-all items text e = ap (join_with_byte 47) (unnumbered items 0 (parts text) e) ∙ joined-slashed text

-- an item's place is the number of those before it
pub place-of : (text : List ℕ) (count place : ℕ) (piece : List ℕ) → count < length (enumerate_from 0 (parts text)) → (place, piece) ≡ get_or (enumerate_from 0 (parts text)) count (place, piece) → place ≡ count
place-of text count place piece within at =
    let inside : count < length (parts text) = omega (arith, length-enumerate_from 0 (parts text)) in
    let same = ap (λ (p : ℕ × List ℕ). p.0) (at ∙ get_or-enumerate_from 0 (parts text) count (place, piece) inside) in
    omega (arith, same)

texts-append : (items : List (ℕ × Bor (List ℕ))) (item : ℕ × Bor (List ℕ)) → map text_of (items ++ item ∷ []) ≡ map text_of items ++ text_of item ∷ []
texts-append [] item = refl
texts-append (first ∷ items) item = ap (λ rest. text_of first ∷ rest) (texts-append items item)

texts-length : (items : List (ℕ × Bor (List ℕ))) → length (map text_of items) ≡ length items
texts-length [] = refl
texts-length (first ∷ items) = ap suc (texts-length items)

-- the first part stands by itself
pub joined-first : (items : List (ℕ × Bor (List ℕ))) (item : ℕ × Bor (List ℕ)) → length items ≤ 0 → joined (items ++ item ∷ []) ≡ joined items ++ text_of item
joined-first items item none = ap (join_with_byte 47) (texts-append items item) ∙ join-first (map text_of items) (text_of item) (omega (arith, texts-length items))

-- each other part stands behind a slash
pub joined-more : (items : List (ℕ × Bor (List ℕ))) (item : ℕ × Bor (List ℕ)) → 0 < length items → joined (items ++ item ∷ []) ≡ (joined items ++ 47 ∷ []) ++ text_of item
joined-more items item some = ap (join_with_byte 47) (texts-append items item) ∙ join-more (map text_of items) (text_of item) (omega (arith, texts-length items))
