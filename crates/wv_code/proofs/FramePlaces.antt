-- The places of frames and of their types.
use Rattle.std.proofs.Common.{◌≡◌, ℕ, ◌+◌, ◌<◌, ◌↔◌, List, [], ◌∷◌, ◌++◌, length, get_or, take, Option, Some, None, refl, sym, ap, subst, ◌∙◌, arith, inl, inr, ◌⊎◌}
use Rattle.std.specs.Prelude.{slice_get}
use Rattle.std.specs.List.{flat_map}
use Rattle.std.proofs.lemmas.List.{take_more}
use Rattle.std.proofs.lemmas.Option.{none-some}
use Rattle.wv_base.specs.Opcodes.{new as new_instance}
use Rattle.wv_insn.specs.declared.raw.Raw.{Raw}
use Rattle.wv_insn.specs.declared.raw.Raw.TheVariants as raws
use Rattle.wv_pool.proofs.Behind.{some_is}
use Rattle.wv_frames.specs.declared.raw.RawType.{RawType}
use Rattle.wv_frames.specs.declared.raw.RawType.TheVariants as types
use Rattle.wv_frames.specs.declared.raw.RawFrame.{RawFrame}
use Rattle.wv_frames.specs.declared.raw.RawFrame.TheVariants as frames
use Rattle.wv_frames.specs.Spelling.{type_bytes}
use Rattle.wv_frames.specs.Whole.{delta_of}
use Rattle.wv_code.specs.declared.splitting.RawCode.{RawCode}
use Rattle.wv_code.specs.Breaks.{Starts, IsNew, HasType, with_one, extended, append, in_locals, on_stack, next_offset}
use Rattle.wv_code.specs.Least.{IsLeastOf, Broken, Behind, InItems}
use Rattle.wv_code.specs.Checking.{AreStarts, MadeBreaks, TypeAtBreaks, TypesBreak}
use Rattle.wv_code.proofs.Starts.{one_index}
use Rattle.wv_code.proofs.LeastPlaces.{none_of, same}

-- ---- a `new` at an offset

pub new_there : (code : RawCode) (len index at : ℕ) (insn : Raw) → AreStarts code len → slice_get code.offsets index ≡ Some at → slice_get code.raws index ≡ Some insn → ((number : ℕ) × (insn ≡ raws.Class new_instance number)) ↔ IsNew code at
new_there code len index at insn h starts is = (
  (λ n. (index, n.0, starts, is ∙ ap (λ (z : Raw). Some z) n.1)),
  (λ n. (n.1, some_is insn (raws.Class new_instance n.1) (sym is ∙ subst (λ (z : ℕ). slice_get code.raws z ≡ Some (raws.Class new_instance n.1)) (one_index code.offsets n.0 index at h.ascend n.2 starts) n.3))),
)

pub no_insn : (code : RawCode) (len index at : ℕ) → AreStarts code len → slice_get code.offsets index ≡ Some at → slice_get code.raws index ≡ None → IsNew code at → ⊥
no_insn code len index at h starts none n =
    none-some (raws.Class new_instance n.1) (sym none ∙ subst (λ (z : ℕ). slice_get code.raws z ≡ Some (raws.Class new_instance n.1)) (one_index code.offsets n.0 index at h.ascend n.2 starts) n.3)

pub no_start : (code : RawCode) (at : ℕ) → (Starts code.offsets at → ⊥) → IsNew code at → ⊥
no_start code at h n = h (n.0, n.2)

-- ---- types

pub made_least : (code : RawCode) (base at : ℕ) {o : Option ℕ} → IsLeastOf (Broken (IsNew code at) (base + 1)) o → IsLeastOf (MadeBreaks code base (types.Uninitialized at)) o
made_least code base at h = same (λ n b. (at, refl, b)) (λ n m. from n m) h
  where
    from : (n : ℕ) → MadeBreaks code base (types.Uninitialized at) n → Broken (IsNew code at) (base + 1) n
    from n (other, is, b) = let one : other ≡ at = cc in subst (λ (z : ℕ). Broken (IsNew code z) (base + 1) n) one b

pub made_none : (code : RawCode) (base : ℕ) (t : RawType) → ((at : ℕ) → t ≡ types.Uninitialized at → ⊥) → IsLeastOf (MadeBreaks code base t) None
made_none code base t h = none_of (λ n m. h m.0 m.1)

-- the places of a frame's types, by cases
abbrev pub FramePlaces : RawCode → RawFrame → ℕ → Type 0
FramePlaces code (frames.SameWithOne delta stack) n = MadeBreaks code 1 stack n
FramePlaces code (frames.SameWithOneExtended delta stack) n = MadeBreaks code 3 stack n
FramePlaces code (frames.Append delta locals) n = InItems locals (TypeAtBreaks code locals 3) n
FramePlaces code (frames.Full delta locals stack) n = InItems locals (TypeAtBreaks code locals 5) n ⊎ InItems stack (TypeAtBreaks code stack (7 + length (flat_map type_bytes locals))) n
FramePlaces code _ n = ⊥

module _ (code : RawCode) where
  places_of : (f : RawFrame) (t : RawType) (place : ℕ) → HasType f t place → (at n : ℕ) → t ≡ types.Uninitialized at → Broken (IsNew code at) (place + 1) n → FramePlaces code f n
  places_of f t place with_one at n e b = (at, e, b)
  places_of f t place extended at n e b = (at, e, b)
  places_of f t place (append k one is) at n e b = (k, one, is, (at, e, b))
  places_of f t place (in_locals k one is) at n e b = inl (k, one, is, (at, e, b))
  places_of f t place (on_stack k one is) at n e b = inr (k, one, is, (at, e, b))

  typed : (f : RawFrame) (t : RawType) (at place n : ℕ) → t ≡ types.Uninitialized at → HasType f t place → Broken (IsNew code at) (place + 1) n → TypesBreak code f n
  typed f t at place n e h b = (at, place, subst (λ (z : RawType). HasType f z place) e h, b)

  breaks_of : (f : RawFrame) (n : ℕ) → FramePlaces code f n → TypesBreak code f n
  breaks_of (frames.SameWithOne delta stack) n (at, e, b) = typed (frames.SameWithOne delta stack) stack at 1 n e with_one b
  breaks_of (frames.SameWithOneExtended delta stack) n (at, e, b) = typed (frames.SameWithOneExtended delta stack) stack at 3 n e extended b
  breaks_of (frames.Append delta locals) n (k, one, is, (at, e, b)) = typed (frames.Append delta locals) one at (3 + length (flat_map type_bytes (take k locals))) n e (append k one is) b
  breaks_of (frames.Full delta locals stack) n (inl (k, one, is, (at, e, b))) = typed (frames.Full delta locals stack) one at (5 + length (flat_map type_bytes (take k locals))) n e (in_locals k one is) b
  breaks_of (frames.Full delta locals stack) n (inr (k, one, is, (at, e, b))) =
      typed (frames.Full delta locals stack) one at (7 + length (flat_map type_bytes locals) + length (flat_map type_bytes (take k stack))) n e (on_stack k one is) b
  breaks_of _ n h = absurd h

  pub frame_least : (f : RawFrame) (base : ℕ) {o : Option ℕ} → IsLeastOf (Behind base (FramePlaces code f)) o → IsLeastOf (Behind base (TypesBreak code f)) o
  frame_least f base h = same (λ n b. (b.0, breaks_of f b.0 b.1, b.2)) (λ n b. (b.0, places_of f (types.Uninitialized b.1.0) b.1.1 b.1.2 b.1.0 b.0 refl b.1.3, b.2)) h

  pub made_behind : (t : RawType) (base place : ℕ) {o : Option ℕ} → IsLeastOf (MadeBreaks code (base + place) t) o → IsLeastOf (Behind base (λ n. MadeBreaks code place t n)) o
  made_behind t base place h = same
      (λ n m. (place + 1, (m.0, m.1, (refl, m.2.1)), omega (arith, m.2.0)))
      (λ n b. (b.1.0, b.1.1, (omega (arith, b.2, b.1.2.0), b.1.2.1))) h

  pub types_behind : (all : List RawType) (base place full : ℕ) {o : Option ℕ} → full ≡ base + place → IsLeastOf (InItems all (TypeAtBreaks code all full)) o → IsLeastOf (Behind base (λ n. InItems all (TypeAtBreaks code all place) n)) o
  types_behind all base place full e h = same
      (λ n q. (place + length (flat_map type_bytes (take q.0 all)) + 1, (q.0, q.1, q.2, (q.3.0, q.3.1, (refl, q.3.2.1))), omega (arith, q.3.2.0, e)))
      (λ n b. (b.1.0, b.1.1, b.1.2, (b.1.3.0, b.1.3.1, (omega (arith, b.2, b.1.3.2.0, e), b.1.3.2.1)))) h

-- ---- where frames stand

pub next_more : (next : ℕ) (before : List RawFrame) (f : RawFrame) → next_offset next (before ++ f ∷ []) ≡ next_offset next before + delta_of f + 1
next_more next [] f = refl
next_more next (g ∷ before) f = next_more (next + delta_of g + 1) before f

pub next_at : (all : List RawFrame) (k : ℕ) (d : RawFrame) → k < length all → next_offset 0 (take (k + 1) all) ≡ next_offset 0 (take k all) + delta_of (get_or all k d) + 1
next_at all k d lt = ap (next_offset 0) (take_more all k d lt) ∙ next_more 0 (take k all) (get_or all k d)
