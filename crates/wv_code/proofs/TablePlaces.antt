-- The places of a StackMapTable's content.
use Rattle.std.proofs.Common.{◌≡◌, ℕ, ◌+◌, ◌^◌, ◌<◌, ◌≤◌, true, false, List, [], ◌∷◌, ◌++◌, length, get_or, take, Option, Some, None, Err, refl, sym, ap, subst, ◌∙◌, arith, inl, inr, ◌⊎◌}
use Rattle.std.specs.Prelude.{IsSome, is_some}
use Rattle.std.specs.Option.{option_map, option_and_then}
use Rattle.std.specs.List.{flat_map}
use Rattle.std.proofs.lemmas.List.{length-append}
use Rattle.std.proofs.lemmas.List.Concat.{flat_map-append}
use Rattle.wv_base.specs.declared.class_file.PoolEntry.{PoolEntry}
use Rattle.wv_base.specs.declared.fault.ClassFault.TheVariants as faults
use Rattle.wv_base.specs.declared.frame.VType.{VType}
use Rattle.wv_base.specs.declared.frame.Frame.{Frame}
use Rattle.wv_base.specs.declared.frame.FrameAt.{FrameAt}
use Rattle.wv_pool.proofs.Behind.{some_is}
use Rattle.wv_frames.specs.declared.raw.RawType.{RawType}
use Rattle.wv_frames.specs.declared.raw.RawType.TheVariants as types
use Rattle.wv_frames.specs.declared.raw.RawFrame.{RawFrame}
use Rattle.wv_frames.specs.declared.raw.RawFrame.TheVariants as frames
use Rattle.wv_frames.specs.Spelling.{type_bytes, list_bytes, frame_bytes, table_bytes}
use Rattle.wv_frames.specs.Whole.{type_of, types_of, delta_of, frames_from, locals_behind}
use Rattle.wv_frames.specs.References.{TypesBreak, BreaksAt, FirstBreaks}
use Rattle.wv_frames.proofs.WholeFaults.{gives_only}
use Rattle.wv_code.specs.declared.splitting.RawCode.{RawCode}
use Rattle.wv_code.specs.Breaks.{delta_place, next_offset, FramesBreak, named, stands, made}
use Rattle.wv_code.specs.Least.{IsLeastOf, lesser, Behind, InItems}
use Rattle.wv_code.specs.Checking.{FrameBreaks, FrameAtBreaks}
use Rattle.wv_code.proofs.LeastPlaces.{none_of, same}
use Rattle.wv_code.proofs.InsnPlaces.{either_behind}

-- ---- two places of one list

-- one list taken apart twice: in the same way, or one front goes on with the other's item
abbrev Parts : {X : Type 0} → List X → X → List X → X → Type 0
Parts {X} us a bs b = ((us ≡ bs) × (a ≡ b)) ⊎ (((more : List X) × (bs ≡ us ++ a ∷ more)) ⊎ ((more : List X) × (us ≡ bs ++ b ∷ more)))

parted : {X : Type 0} (us bs : List X) (a b : X) (xs ys : List X) → us ++ a ∷ xs ≡ bs ++ b ∷ ys → Parts us a bs b
parted [] [] a b xs ys e = inl (refl, cc)
parted [] (c ∷ bs) a b xs ys e = let one : a ≡ c = cc in inr (inl (bs, ap (λ z. z ∷ bs) (sym one)))
parted (c ∷ us) [] a b xs ys e = let one : c ≡ b = cc in inr (inr (us, ap (λ z. z ∷ us) one))
parted (c ∷ us) (d ∷ bs) a b xs ys e =
    let one : c ≡ d = cc in
    let rest : us ++ a ∷ xs ≡ bs ++ b ∷ ys = cc in
    on c d one (parted us bs a b xs ys rest)
  where
    on : {X : Type 0} {us bs : List X} {a b : X} (c d : X) → c ≡ d → Parts us a bs b → Parts (c ∷ us) a (d ∷ bs) b
    on c d one (inl h) = inl (cc (one, h.0), h.1)
    on c d one (inr (inl h)) = inr (inl (h.0, cc (one, h.1)))
    on c d one (inr (inr h)) = inr (inr (h.0, cc (one, h.1)))

some_none : {A : Type 0} (o : Option A) → IsSome o → o ≡ None → ⊥
some_none o h e = let never : false ≡ true = ap is_some (sym e) ∙ h in absurd cc

-- types with one that names no class
types_none : (pool : List PoolEntry) (before : List RawType) (broken : RawType) (after : List RawType) → type_of pool broken ≡ None → types_of pool (before ++ broken ∷ after) ≡ None
types_none pool [] broken after h = ap (option_and_then (λ type. option_map (λ rest. type ∷ rest) (types_of pool after))) h
types_none pool (x ∷ before) broken after h = behind_none (type_of pool x) (types_none pool before broken after h)
  where
    behind_none : (o : Option VType) → types_of pool (before ++ broken ∷ after) ≡ None → option_and_then (λ type. option_map (λ rest. type ∷ rest) (types_of pool (before ++ broken ∷ after))) o ≡ None
    behind_none None none = refl
    behind_none (Some type) none = ap (option_map (λ rest. type ∷ rest)) none

unnamed : (pool : List PoolEntry) (all : List RawType) (base at : ℕ) → TypesBreak pool all base at → types_of pool all ≡ None
unnamed pool all base at h = ap (types_of pool) h.parts ∙ types_none pool h.before h.broken h.after h.unnamed

one_type : (pool : List PoolEntry) (all : List RawType) (base a b : ℕ) → TypesBreak pool all base a → TypesBreak pool all base b → a ≡ b
one_type pool all base a b h k = decide (parted h.before k.before h.broken k.broken h.after k.after (sym h.parts ∙ k.parts))
  where
    decide : Parts h.before h.broken k.before k.broken → a ≡ b
    decide (inl e) = h.place ∙ ap (λ (ts : List RawType). base + length (flat_map type_bytes ts) + 1) e.0 ∙ sym k.place
    decide (inr (inl e)) = absurd (some_none (types_of pool k.before) k.named (ap (types_of pool) e.1 ∙ types_none pool h.before h.broken e.0 h.unnamed))
    decide (inr (inr e)) = absurd (some_none (types_of pool h.before) h.named (ap (types_of pool) e.1 ∙ types_none pool k.before k.broken e.0 k.unnamed))

one_break : (pool : List PoolEntry) (locals : List VType) (f : RawFrame) (base a b : ℕ) → BreaksAt pool locals f base a → BreaksAt pool locals f base b → a ≡ b
one_break pool locals (frames.SameWithOne delta stack) base a b h k = one_type pool (stack ∷ []) (base + 1) a b h k
one_break pool locals (frames.SameWithOneExtended delta stack) base a b h k = one_type pool (stack ∷ []) (base + 3) a b h k
one_break pool locals (frames.Chop count delta) base a b h k = h.0 ∙ sym k.0
one_break pool locals (frames.Append delta more) base a b h k = one_type pool more (base + 3) a b h k
one_break pool locals (frames.Full delta all stack) base a b (inl h) (inl k) = one_type pool all (base + 5) a b h k
one_break pool locals (frames.Full delta all stack) base a b (inl h) (inr k) = absurd (some_none (types_of pool all) k.0 (unnamed pool all (base + 5) a h))
one_break pool locals (frames.Full delta all stack) base a b (inr h) (inl k) = absurd (some_none (types_of pool all) h.0 (unnamed pool all (base + 5) b k))
one_break pool locals (frames.Full delta all stack) base a b (inr h) (inr k) = one_type pool stack (base + 7 + length (flat_map type_bytes all)) a b h.1 k.1
one_break pool locals _ base a b h k = absurd h

-- what breaks has no whole frames
pub not_whole : (pool : List PoolEntry) (first : Frame) (all : List RawFrame) (at : ℕ) (found : List FrameAt) → FirstBreaks pool first all at → frames_from pool 0 first.locals all ≡ Some found → ⊥
not_whole pool first all at found h is = gives_only pool first all found (Err (faults.Reference at)) tt h is

pub one_named : (pool : List PoolEntry) (first : Frame) (all : List RawFrame) (a b : ℕ) → FirstBreaks pool first all a → FirstBreaks pool first all b → a ≡ b
one_named pool first all a b h k = decide (parted h.before k.before h.broken k.broken h.after k.after (sym h.parts ∙ k.parts))
  where
    front : (m : ℕ) (f : FirstBreaks pool first all m) (more : List RawFrame) → FirstBreaks pool first (f.before ++ f.broken ∷ more) m
    front m f more = record { before = f.before; broken = f.broken; after = more; parts = refl; frames = f.frames; whole = f.whole; breaks = f.breaks }

    decide : Parts h.before h.broken k.before k.broken → a ≡ b
    decide (inl e) =
        let whole : h.frames ≡ k.frames = some_is h.frames k.frames (sym h.whole ∙ ap (frames_from pool 0 first.locals) e.0 ∙ k.whole) in
        let moved : BreaksAt pool (locals_behind first.locals k.frames) k.broken (2 + length (flat_map frame_bytes k.before)) a =
        subst (λ (f : RawFrame). BreaksAt pool (locals_behind first.locals k.frames) f (2 + length (flat_map frame_bytes k.before)) a) e.1
        (subst (λ (fs : List RawFrame). BreaksAt pool (locals_behind first.locals k.frames) h.broken (2 + length (flat_map frame_bytes fs)) a) e.0
        (subst (λ (fs : List FrameAt). BreaksAt pool (locals_behind first.locals fs) h.broken (2 + length (flat_map frame_bytes h.before)) a) whole h.breaks))
        in one_break pool (locals_behind first.locals k.frames) k.broken (2 + length (flat_map frame_bytes k.before)) a b moved k.breaks
    decide (inr (inl e)) = absurd (not_whole pool first (h.before ++ h.broken ∷ e.0) a k.frames (front a h e.0) (ap (frames_from pool 0 first.locals) (sym e.1) ∙ k.whole))
    decide (inr (inr e)) = absurd (not_whole pool first (k.before ++ k.broken ∷ e.0) b h.frames (front b k e.0) (ap (frames_from pool 0 first.locals) (sym e.1) ∙ h.whole))

-- ---- the place is within the table

some_byte : (t : RawType) → 1 ≤ length (type_bytes t)
some_byte (types.Object class) = omega arith
some_byte (types.Uninitialized at) = omega arith
some_byte _ = omega arith

apart : {X : Type 0} (f : X → List ℕ) (before : List X) (x : X) (after all : List X) → all ≡ before ++ x ∷ after → length (flat_map f all) ≡ length (flat_map f before) + (length (f x) + length (flat_map f after))
apart f before x after all e =
    ap (λ zs. length (flat_map f zs)) e ∙ ap length (flat_map-append f before (x ∷ after)) ∙ length-append (flat_map f before) (f x ++ flat_map f after) ∙ ap (λ (z : ℕ). length (flat_map f before) + z) (length-append (f x) (flat_map f after))

types_within : (pool : List PoolEntry) (all : List RawType) (base at : ℕ) → TypesBreak pool all base at → at ≤ base + length (flat_map type_bytes all)
types_within pool all base at h = omega (arith, h.place, apart type_bytes h.before h.broken h.after all h.parts, some_byte h.broken)

alone : (t : RawType) → length (flat_map type_bytes (t ∷ [])) ≡ length (type_bytes t)
alone t = apart type_bytes [] t [] (t ∷ []) refl ∙ omega arith

break_within : (pool : List PoolEntry) (locals : List VType) (f : RawFrame) (base at : ℕ) → BreaksAt pool locals f base at → at ≤ base + length (frame_bytes f)
break_within pool locals (frames.SameWithOne delta stack) base at h = omega (arith, types_within pool (stack ∷ []) (base + 1) at h, alone stack)
break_within pool locals (frames.SameWithOneExtended delta stack) base at h = omega (arith, types_within pool (stack ∷ []) (base + 3) at h, alone stack)
break_within pool locals (frames.Chop count delta) base at h = omega (arith, h.0)
break_within pool locals (frames.Append delta more) base at h = omega (arith, types_within pool more (base + 3) at h)
break_within pool locals (frames.Full delta all stack) base at h = omega (arith, lists_within h, sizes)
  where
    sizes : length (frame_bytes (frames.Full delta all stack)) ≡ 7 + length (flat_map type_bytes all) + length (flat_map type_bytes stack)
    sizes = omega (arith, length-append (list_bytes all) (list_bytes stack))

    lists_within : BreaksAt pool locals (frames.Full delta all stack) base at → at ≤ base + (7 + length (flat_map type_bytes all) + length (flat_map type_bytes stack))
    lists_within (inl k) = omega (arith, types_within pool all (base + 5) at k)
    lists_within (inr k) = omega (arith, types_within pool stack (base + 7 + length (flat_map type_bytes all)) at k.1)
break_within pool locals _ base at h = absurd h

pub named_small : (pool : List PoolEntry) (first : Frame) (all : List RawFrame) (at : ℕ) → length (table_bytes all) < 2 ^ 32 → FirstBreaks pool first all at → at < 2 ^ 32
named_small pool first all at small h =
    omega (arith, small, break_within pool (locals_behind first.locals h.frames) h.broken (2 + length (flat_map frame_bytes h.before)) at h.breaks, apart frame_bytes h.before h.broken h.after all h.parts)

-- ---- the least of them

pub whole_least : (pool : List PoolEntry) (first : Frame) (all : List RawFrame) (base : ℕ) (found : List FrameAt) → frames_from pool 0 first.locals all ≡ Some found → IsLeastOf (Behind base (FirstBreaks pool first all)) None
whole_least pool first all base found is = none_of (λ n b. not_whole pool first all b.0 found b.1 is)

pub named_least : (pool : List PoolEntry) (first : Frame) (all : List RawFrame) (base at : ℕ) → FirstBreaks pool first all at → IsLeastOf (Behind base (FirstBreaks pool first all)) (Some (base + at))
named_least pool first all base at h = record { holds = (at, h, refl); least = λ n k. omega (arith, k.2, one_named pool first all at k.0 h k.1) }

module _ (pool : List PoolEntry) (first : Frame) (code : RawCode) (all : List RawFrame) where
  places_of : (n : ℕ) → FramesBreak pool first code all n → FirstBreaks pool first all n ⊎ InItems all (FrameAtBreaks code all 2) n
  places_of n (named h) = inl h
  places_of n (stands k f is h) = inr (k, f, is, (delta_place f, inl (refl, h), refl))
  places_of n (made k f at place is has h) = inr (k, f, is, (place + 1, inr (at, place, has, (refl, h)), omega arith))

  breaks_of : (n : ℕ) → FirstBreaks pool first all n ⊎ InItems all (FrameAtBreaks code all 2) n → FramesBreak pool first code all n
  breaks_of n (inl h) = named h
  breaks_of n (inr (k, f, is, (m, inl h, e))) = subst (FramesBreak pool first code all) (sym (e ∙ ap (λ (z : ℕ). 2 + length (flat_map frame_bytes (take k all)) + z) h.0)) (stands k f is h.1)
  breaks_of n (inr (k, f, is, (m, inr (at, place, has, h), e))) = subst (FramesBreak pool first code all) (omega (arith, e, h.0)) (made k f at place is has h.1)

  items_behind : (base : ℕ) {o : Option ℕ} → IsLeastOf (InItems all (FrameAtBreaks code all (base + 2))) o → IsLeastOf (Behind base (λ n. InItems all (FrameAtBreaks code all 2) n)) o
  items_behind base h = same
      (λ n q. (2 + length (flat_map frame_bytes (take q.0 all)) + q.3.0, (q.0, q.1, q.2, (q.3.0, q.3.1, refl)), omega (arith, q.3.2)))
      (λ n b. (b.1.0, b.1.1, b.1.2, (b.1.3.0, b.1.3.1, omega (arith, b.2, b.1.3.2)))) h

  pub table_least : (base : ℕ) {a b o : Option ℕ} → o ≡ lesser a b → IsLeastOf (Behind base (FirstBreaks pool first all)) a → IsLeastOf (InItems all (FrameAtBreaks code all (base + 2))) b → IsLeastOf (Behind base (FramesBreak pool first code all)) o
  table_least base e h k = same (λ n b. (b.0, breaks_of b.0 b.1, b.2)) (λ n b. (b.0, places_of b.0 b.1, b.2)) (either_behind base e h (items_behind base k))

-- a frame of the list
pub frame_at_least : (code : RawCode) (all : List RawFrame) (base i place at : ℕ) (f : RawFrame) {o : Option ℕ} → place ≡ base + length (flat_map frame_bytes (take i all)) → at ≡ next_offset 0 (take i all) + delta_of f → f ≡ get_or all i f
    → IsLeastOf (Behind place (FrameBreaks code at f)) o → IsLeastOf (FrameAtBreaks code all base i (get_or all i f)) o
frame_at_least code all base i place at f {o = o} e g is h =
    subst (λ (z : RawFrame). IsLeastOf (FrameAtBreaks code all base i z) o) is
    (subst (λ (p : ℕ). IsLeastOf (Behind p (FrameBreaks code (next_offset 0 (take i all) + delta_of f) f)) o) e (subst (λ (z : ℕ). IsLeastOf (Behind place (FrameBreaks code z f)) o) g h))
