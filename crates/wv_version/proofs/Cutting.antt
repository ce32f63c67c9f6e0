-- Cuts at a mark: there is one, and it comes to the parts of a text.
use Rattle.std.proofs.Common.{◌≡◌, ◌≢◌, ℕ, ◌<◌, ◌==◌, true, false, List, [], ◌∷◌, ◌++◌, length, get_or, Option, Some, None, refl, ap, ◌∙◌, arith}
use Rattle.std.specs.List.{AllByRecursion, All, join_with_byte}
use Rattle.std.proofs.lemmas.List.Elements.{recursion_from_All, All-from_recursion, All-from_get_or, All-weaker}
use Rattle.std.proofs.lemmas.List.Splits.{slice_split_none, slice_split_at}
use Rattle.std.proofs.lemmas.Bool.Decides.{nat_tests}
use Rattle.std.proofs.lemmas.List.{append-nil}
use Rattle.wv_version.specs.Cut.{led_by, IsFree, IsCut}
use Rattle.wv_version.specs.Reading.{parts, parts_of}

pub IsFree-from_reads : (mark : ℕ) (text : List ℕ) → ((i : ℕ) → i < length text → get_or text i 0 ≢ mark) → IsFree mark text
IsFree-from_reads mark text reads =
    recursion_from_All (λ byte. byte ≢ mark) text (All-from_get_or (λ byte. byte ≢ mark) text 0 reads)

pub IsFree-append : (mark : ℕ) (xs ys : List ℕ) → IsFree mark xs → IsFree mark ys → IsFree mark (xs ++ ys)
IsFree-append mark [] ys f g = g
IsFree-append mark (x ∷ xs) ys f g = (f.0, IsFree-append mark xs ys f.1 g)

-- two cuts of one text are the same
pub cuts_same : (mark : ℕ) (xs ys : List ℕ) (r s : Option (List ℕ)) → IsFree mark xs → IsFree mark ys → xs ++ led_by mark r ≡ ys ++ led_by mark s → (xs ≡ ys) × (r ≡ s)
cuts_same mark [] [] None None f g e = (refl, refl)
cuts_same mark [] [] None (Some s) f g e = cc
cuts_same mark [] [] (Some r) None f g e = cc
cuts_same mark [] [] (Some r) (Some s) f g e = let same : r ≡ s = cc in (refl, ap Some same)
cuts_same mark [] (y ∷ ys) None s f g e = cc
cuts_same mark [] (y ∷ ys) (Some r) s f g e = let same : y ≡ mark = cc in absurd (g.0 same)
cuts_same mark (x ∷ xs) [] r None f g e = cc
cuts_same mark (x ∷ xs) [] r (Some s) f g e = let same : x ≡ mark = cc in absurd (f.0 same)
cuts_same mark (x ∷ xs) (y ∷ ys) r s f g e =
    let head : x ≡ y = cc in
    let tail : xs ++ led_by mark r ≡ ys ++ led_by mark s = cc in
    let rest : (xs ≡ ys) × (r ≡ s) = cuts_same mark xs ys r s f.1 g.1 tail in
    let front : xs ≡ ys = rest.0 in
    let whole : x ∷ xs ≡ y ∷ ys = cc in
    (whole, rest.1)

passes_none : (mark : ℕ) (text : List ℕ) → IsFree mark text → All (λ byte. (byte == mark) ≡ false) text
passes_none mark text free =
    All-weaker (λ byte. byte ≢ mark) (λ byte. (byte == mark) ≡ false) (λ byte other. grind (arith, nat_tests)) text (All-from_recursion (λ byte. byte ≢ mark) text free)

hit : (mark : ℕ) → (mark == mark) ≡ true
hit mark = grind (arith, nat_tests)

parts_led : (mark : ℕ) (front : List ℕ) (rest : Option (List ℕ)) → IsFree mark front → parts mark (front ++ led_by mark rest) ≡ front ∷ parts_of mark rest
parts_led mark front None free = rw append-nil (slice_split_none (λ byte. byte == mark) front (passes_none mark front free))
parts_led mark front (Some rest) free = slice_split_at (λ byte. byte == mark) front mark rest (passes_none mark front free) (hit mark)

-- the first part is the front of the cut, and the others are those of the rest
pub parts-cut : (mark : ℕ) (text front : List ℕ) (rest : Option (List ℕ)) → IsCut mark text front rest → parts mark text ≡ front ∷ parts_of mark rest
parts-cut mark text front rest cut = ap (parts mark) cut.whole ∙ parts_led mark front rest cut.free

-- pieces without the mark are the parts of their join
pub parts-join : (mark : ℕ) (pieces : List (List ℕ)) → 0 < length pieces → AllByRecursion (IsFree mark) pieces → parts mark (join_with_byte mark pieces) ≡ pieces
parts-join mark [] some free = absurd (omega arith)
parts-join mark (x ∷ []) some free = slice_split_none (λ byte. byte == mark) x (passes_none mark x free.0)
parts-join mark (x ∷ y ∷ xs) some free =
    let rest : parts mark (join_with_byte mark (y ∷ xs)) ≡ y ∷ xs = parts-join mark (y ∷ xs) (omega arith) free.1 in
    slice_split_at (λ byte. byte == mark) x mark (join_with_byte mark (y ∷ xs)) (passes_none mark x free.0) (hit mark) ∙ ap (λ pieces. x ∷ pieces) rest

-- what no piece has, and isn't the join's byte, the join doesn't have
pub IsFree-join : (mark by : ℕ) (pieces : List (List ℕ)) → by ≢ mark → AllByRecursion (IsFree mark) pieces → IsFree mark (join_with_byte by pieces)
IsFree-join mark by [] other free = tt
IsFree-join mark by (x ∷ []) other free = free.0
IsFree-join mark by (x ∷ y ∷ xs) other free =
    IsFree-append mark x (by ∷ join_with_byte by (y ∷ xs)) free.0 (other, IsFree-join mark by (y ∷ xs) other free.1)
