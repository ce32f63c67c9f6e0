-- Types and frames with indices in place of offsets, as loops go over them.
use Rattle.std.proofs.Common.{◌≡◌, ℕ, ◌+◌, ◌<◌, List, [], ◌∷◌, ◌++◌, length, get_or, take, sym, ap, ◌∙◌}
use Rattle.std.proofs.lemmas.List.{take_more}
use Rattle.wv_base.specs.declared.frame.VType.{VType}
use Rattle.wv_base.specs.declared.frame.FrameAt.{FrameAt}
use Rattle.wv_code.specs.Body.{IsTypeOf, AreTypesOf, IsFrameOf, AreFramesOf}

type_push : (offsets : List ℕ) (raws ts : List VType) (raw t : VType) → AreTypesOf offsets raws ts → IsTypeOf offsets raw t → AreTypesOf offsets (raws ++ raw ∷ []) (ts ++ t ∷ [])
type_push offsets [] [] raw t h k = (k, tt)
type_push offsets [] (y ∷ ts) raw t h k = absurd h
type_push offsets (x ∷ raws) [] raw t h k = absurd h
type_push offsets (x ∷ raws) (y ∷ ts) raw t h k = (h.0, type_push offsets raws ts raw t h.1 k)

pub types_on : (offsets : List ℕ) (raws : List VType) (k : ℕ) (raw : VType) (ts : List VType) (t : VType) → k < length raws → raw ≡ get_or raws k raw → AreTypesOf offsets (take k raws) ts → IsTypeOf offsets raw t → AreTypesOf offsets (take (k + 1) raws) (ts ++ t ∷ [])
types_on offsets raws k raw ts t lt is h one =
    let front : take (k + 1) raws ≡ take k raws ++ raw ∷ [] = take_more raws k raw lt ∙ ap (λ (x : VType). take k raws ++ x ∷ []) (sym is) in
    rw front (type_push offsets (take k raws) ts raw t h one)

frame_push : (offsets : List ℕ) (raws fs : List FrameAt) (raw f : FrameAt) → AreFramesOf offsets raws fs → IsFrameOf offsets raw f → AreFramesOf offsets (raws ++ raw ∷ []) (fs ++ f ∷ [])
frame_push offsets [] [] raw f h k = (k, tt)
frame_push offsets [] (y ∷ fs) raw f h k = absurd h
frame_push offsets (x ∷ raws) [] raw f h k = absurd h
frame_push offsets (x ∷ raws) (y ∷ fs) raw f h k = (h.0, frame_push offsets raws fs raw f h.1 k)

pub frames_on : (offsets : List ℕ) (raws : List FrameAt) (k : ℕ) (raw : FrameAt) (fs : List FrameAt) (f : FrameAt) → k < length raws → raw ≡ get_or raws k raw → AreFramesOf offsets (take k raws) fs → IsFrameOf offsets raw f
    → AreFramesOf offsets (take (k + 1) raws) (fs ++ f ∷ [])
frames_on offsets raws k raw fs f lt is h one =
    let front : take (k + 1) raws ≡ take k raws ++ raw ∷ [] = take_more raws k raw lt ∙ ap (λ (x : FrameAt). take k raws ++ x ∷ []) (sym is) in
    rw front (frame_push offsets (take k raws) fs raw f h one)
