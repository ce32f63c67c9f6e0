-- Annotations in the order of their parameters, and those of one parameter.
use Rattle.std.proofs.Common.{◌≡◌, ℕ, zero, suc, ◌+◌, ◌-◌, ◌<◌, ◌≤◌, Bool, true, false, cond, List, [], ◌∷◌, ◌++◌, Option, Some, refl, sym, ap, subst, ◌∙◌, ◌⊎◌, inl, inr, arith, append_assoc}
use Rattle.std.specs.Prelude.{◌==◌}
use Rattle.std.specs.List.{filter, AllByRecursion}
use Rattle.std.proofs.lemmas.Bool.{eqb-true}
use Rattle.std.proofs.lemmas.List.{append-nil}
use Rattle.wv_base.specs.declared.note.Note.{Note}
use Rattle.wv_attr.specs.Writing.{AreOrdered, is_place, by_place, lists_pieces}
use Rattle.wv_attr.specs.declared.piece.Piece.{Piece}
use Rattle.wv_attr.specs.Pieces.{list_pieces}

-- annotations of this parameter
abbrev pub AreOf : ℕ → List Note → Type 0
AreOf place notes = AllByRecursion (λ (n : Note). n.parameter ≡ Some place) notes

abbrev pub of_place : ℕ → List Note → List Note
of_place place notes = filter (λ (n : Note). is_place place n.parameter) notes

same_number : (n : ℕ) → (n == n) ≡ true
same_number n = grind arith

other_number : (m n : ℕ) → m < n → (m == n) ≡ false
other_number m n lt = grind arith

other_number_above : (m n : ℕ) → n < m → (m == n) ≡ false
other_number_above m n lt = grind arith

is_here : (place : ℕ) (o : Option ℕ) → o ≡ Some place → is_place place o ≡ true
is_here place o e = ap (is_place place) e ∙ same_number place

is_earlier : (place q : ℕ) (o : Option ℕ) → o ≡ Some q → q < place → is_place place o ≡ false
is_earlier place q o e lt = ap (is_place place) e ∙ other_number q place lt

is_later : (place q : ℕ) (o : Option ℕ) → o ≡ Some q → place < q → is_place place o ≡ false
is_later place q o e lt = ap (is_place place) e ∙ other_number_above q place lt

pub filter_here : (place : ℕ) (run after : List Note) → AreOf place run → of_place place (run ++ after) ≡ run ++ of_place place after
filter_here place [] after all = refl
filter_here place (n ∷ run) after all =
    ap (λ (b : Bool). cond b (n ∷ of_place place (run ++ after)) (of_place place (run ++ after))) (is_here place n.parameter all.0) ∙ ap (λ (t : List Note). n ∷ t) (filter_here place run after all.1)

pub filter_skip : (place q : ℕ) (run after : List Note) → place < q → AreOf place run → of_place q (run ++ after) ≡ of_place q after
filter_skip place q [] after lt all = refl
filter_skip place q (n ∷ run) after lt all =
    ap (λ (b : Bool). cond b (n ∷ of_place q (run ++ after)) (of_place q (run ++ after))) (is_earlier q place n.parameter all.0 lt) ∙ filter_skip place q run after lt all.1

pub filter_none : (place least limit : ℕ) (notes : List Note) → place < least → AreOrdered least limit notes → of_place place notes ≡ []
filter_none place least limit [] lt h = refl
filter_none place least limit (n ∷ notes) lt h =
    let q = h.0 in
    let far = h.2 in
    ap (λ (b : Bool). cond b (n ∷ of_place place notes) (of_place place notes)) (is_later place q n.parameter h.1 (omega arith)) ∙ filter_none place q limit notes (omega arith) h.4

pub by_place_skip : (place q count : ℕ) (run after : List Note) → place < q → AreOf place run → by_place q count (run ++ after) ≡ by_place q count after
by_place_skip place q zero run after lt all = refl
by_place_skip place q (suc count) run after lt all =
    ap (λ (t : List Note). t ∷ by_place (q + 1) count (run ++ after)) (filter_skip place q run after lt all) ∙ ap (λ (t : List (List Note)). of_place q after ∷ t) (by_place_skip place (q + 1) count run after (omega arith) all)

-- those of the least parameter are in front
pub record Run (place limit : ℕ) (notes : List Note) : Type 0 where
  pub run : List Note
  pub after : List Note
  pub splits : run ++ after ≡ notes
  pub here : AreOf place run
  pub behind : AreOrdered (place + 1) limit after

same_or_above : (least q : ℕ) → least ≤ q → (q ≡ least) ⊎ (least < q)
same_or_above least q le = go (q == least) refl
  where
    go : (b : Bool) → (q == least) ≡ b → (q ≡ least) ⊎ (least < q)
    go true e = inl (eqb-true q least e)
    go false e = inr (grind arith)

pub split_run : (place limit : ℕ) (notes : List Note) → AreOrdered place limit notes → Run place limit notes
split_run place limit [] h = record { run = []; after = []; splits = refl; here = tt; behind = tt }
split_run place limit (n ∷ notes) h = go (λ k. split_run place limit notes k) (same_or_above place h.0 h.2)
  where
    go : (AreOrdered place limit notes → Run place limit notes) → (h.0 ≡ place) ⊎ (place < h.0) → Run place limit (n ∷ notes)
    go others (inl e) =
        let r = others (subst (λ (k : ℕ). AreOrdered k limit notes) e h.4) in
        record { run = n ∷ r.run; after = r.after; splits = ap (λ (t : List Note). n ∷ t) r.splits; here = (h.1 ∙ ap (λ (k : ℕ). Some k) e, r.here); behind = r.behind }
    go others (inr lt) = record { run = []; after = n ∷ notes; splits = refl; here = tt; behind = (h.0, h.1, omega arith, h.3, h.4) }

pub run_is : (place limit : ℕ) (run after notes : List Note) → run ++ after ≡ notes → AreOf place run → AreOrdered (place + 1) limit after → of_place place notes ≡ run
run_is place limit run after notes e here behind =
    ap (of_place place) (sym e) ∙ filter_here place run after here ∙ ap (λ (t : List Note). run ++ t) (filter_none place (place + 1) limit after (omega arith) behind) ∙ append-nil run

pub by_place_behind : (place count : ℕ) (run after notes : List Note) → run ++ after ≡ notes → AreOf place run → by_place (place + 1) count notes ≡ by_place (place + 1) count after
by_place_behind place count run after notes e here = ap (by_place (place + 1) count) (sym e) ∙ by_place_skip place (place + 1) count run after (omega arith) here

-- the parts of one list more
pub one_list_more : (place count : ℕ) (out new start : List Piece) (notes run after : List Note) → place < count → run ++ after ≡ notes → AreOf place run → AreOrdered (place + 1) count after → new ≡ out ++ list_pieces run
    → out ++ lists_pieces (by_place place (count - place) notes) ≡ start → new ++ lists_pieces (by_place (place + 1) (count - (place + 1)) after) ≡ start
one_list_more place count out new start notes run after lt splits here behind e h =
    let k = count - (place + 1) in
    let left : suc k ≡ count - place = omega arith in
    let last = lists_pieces (by_place (place + 1) k after) in
    let first : of_place place notes ≡ run = run_is place count run after notes splits here behind in
    let others : by_place (place + 1) k notes ≡ by_place (place + 1) k after = by_place_behind place k run after notes splits here in
    let all : list_pieces run ++ last ≡ lists_pieces (by_place place (count - place) notes) =
    ap (λ (ns : List Note). list_pieces ns ++ last) (sym first) ∙ ap (λ (ls : List (List Note)). lists_pieces (of_place place notes ∷ ls)) (sym others) ∙ ap (λ (j : ℕ). lists_pieces (by_place place j notes)) left in
    ap (λ (t : List Piece). t ++ last) e ∙ append_assoc out (list_pieces run) last ∙ ap (λ (t : List Piece). out ++ t) all ∙ h
