-- The groups that are left, the last of them next.
use Rattle.std.proofs.Common.{◌≡◌, ℕ, ◌-◌, ◌<◌, List, [], ◌∷◌, ◌++◌, length, take, drop, reverse, refl, sym, subst, ap, ◌∙◌, arith}
use Rattle.std.proofs.lemmas.List.{reverse-append, take_all, length-drop}
use Rattle.wv_room.specs.declared.elements.Elements.{Elements}
use Rattle.wv_room.specs.Counts.{elements_with, ElementsFillRoom}
use Rattle.wv_attr.specs.declared.mark.Mark.{Mark}
use Rattle.wv_attr.specs.declared.group.Group.{Group}
use Rattle.wv_attr.specs.Groups.{less, pending}
use Rattle.wv_attr.proofs.Filling.{due_one, due_none}
use Rattle.wv_attr.proofs.Places.{Reading, skip}

top : (all others : List Group) (g : Group) → all ≡ others ++ g ∷ [] → reverse all ≡ g ∷ reverse others
top all others g e = ap reverse e ∙ reverse-append others (g ∷ [])

pub emptied : (all : List Group) → length all ≡ 0 → reverse all ≡ []
emptied [] e = refl
emptied (g ∷ all) e = absurd (omega arith)

pub two_more : (all some others : List Group) (g h : Group) → some ≡ others ++ g ∷ [] → all ≡ some ++ h ∷ [] → h ∷ g ∷ reverse others ≡ reverse all
two_more all some others g h e f = sym (top all some h f ∙ ap (λ (t : List Group). h ∷ t) (top some others g e))

pub moved : (first : List Group) (bytes : List ℕ) (ms ms2 : List Mark) (at at2 : ℕ) (gs gs2 : List Group) (due due2 : Elements) → ms ≡ ms2 → at ≡ at2 → gs ≡ gs2 → due ≡ due2 → Reading first bytes ms at gs due → Reading first bytes ms2 at2 gs2 due2
moved first bytes ms ms2 at at2 gs gs2 due due2 em ea eg ed r =
    subst (λ (d : Elements). Reading first bytes ms2 at2 gs2 d) ed
    (subst (λ (t : List Group). Reading first bytes ms2 at2 t due) eg
    (subst (λ (k : ℕ). Reading first bytes ms2 k gs due) ea
    (subst (λ (t : List Mark). Reading first bytes t at gs due) em r)))

pub popped : (first : List Group) (bytes : List ℕ) (ms : List Mark) (at : ℕ) (due : Elements) (all others : List Group) (g : Group) → all ≡ others ++ g ∷ [] → Reading first bytes ms at (reverse all) due → Reading first bytes ms at (g ∷ reverse others) due
popped first bytes ms at due all others g e r = subst (λ (t : List Group). Reading first bytes ms at t due) (top all others g e) r

pub skipped : (first : List Group) (bytes : List ℕ) (ms : List Mark) (at : ℕ) (due : Elements) (g : Group) (gs : List Group) → g.count ≡ 0 → Reading first bytes ms at (g ∷ gs) due → Reading first bytes ms at gs due
skipped first bytes ms at due g gs z r = skip first bytes ms at g gs due z (r.counts ∙ due_none g.kind g.count (pending gs) z) r

pub due_is : (first : List Group) (bytes : List ℕ) (ms : List Mark) (at : ℕ) (due : Elements) (g : Group) (gs : List Group) → 0 < g.count → Reading first bytes ms at (g ∷ gs) due → due ≡ elements_with g.kind 1 (pending (less g ∷ gs))
due_is first bytes ms at due g gs c r = r.counts ∙ due_one g.kind g.count (pending gs) c

pub rest_is : (bytes : List ℕ) (at : ℕ) → take (length bytes - at) (drop at bytes) ≡ drop at bytes
rest_is bytes at = take_all (length bytes - at) (drop at bytes) (omega (arith, length-drop at bytes))

pub next_fits : (first : List Group) (bytes : List ℕ) (ms : List Mark) (at : ℕ) (due besides : Elements) (g : Group) (gs : List Group) → 0 < g.count → besides ≡ pending (less g ∷ gs) → Reading first bytes ms at (g ∷ gs) due
    → ElementsFillRoom (elements_with g.kind 1 besides) (length (drop at bytes))
next_fits first bytes ms at due besides g gs c e r =
    let all : due ≡ elements_with g.kind 1 besides = due_is first bytes ms at due g gs c r ∙ ap (elements_with g.kind 1) (sym e) in
    subst (λ (k : ℕ). ElementsFillRoom (elements_with g.kind 1 besides) k) (sym (length-drop at bytes)) (subst (λ (d : Elements). ElementsFillRoom d (length bytes - at)) all r.fits)
