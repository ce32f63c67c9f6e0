-- A written body is the content of a Code attribute that means it.
use Rattle.std.proofs.Common.{◌≡◌, ℕ, zero, suc, ◌+◌, ◌^◌, ◌<◌, ◌≤◌, Bool, true, false, List, [], ◌∷◌, ◌++◌, length, Option, Some, refl, sym, ap, subst, ◌∙◌, append_assoc, arith}
use Rattle.std.specs.Prelude.{slice_get, nat_le, if◌then◌else◌}
use Rattle.std.specs.List.{flat_map, AllByRecursion}
use Rattle.std.proofs.lemmas.List.{append-nil, length-append}
use Rattle.std.proofs.lemmas.Bool.Decides.{nat_tests}
use Rattle.wv_base.specs.declared.class_file.PoolEntry.{PoolEntry}
use Rattle.wv_base.specs.declared.class_file.Attribute.{Attribute}
use Rattle.wv_base.specs.declared.class_file.Body.{Body}
use Rattle.wv_base.specs.declared.constant.Const.{Const}
use Rattle.wv_base.specs.declared.frame.VType.{VType}
use Rattle.wv_base.specs.declared.frame.VType.TheVariants as vtypes
use Rattle.wv_base.specs.declared.frame.Frame.{Frame}
use Rattle.wv_base.specs.declared.frame.FrameAt.{FrameAt}
use Rattle.wv_base.specs.declared.insn.Insn.{Insn}
use Rattle.wv_base.specs.declared.insn.Insn.TheVariants as insn
use Rattle.wv_insn.specs.declared.raw.Raw.{Raw}
use Rattle.wv_insn.specs.declared.raw.Raw.TheVariants as raws
use Rattle.wv_pool.specs.Adding.{Keeps}
use Rattle.wv_pool.specs.Allowed.{IsAllowed}
use Rattle.wv_pool.specs.Constants.{constant_of}
use Rattle.wv_pool.specs.Numbers.{Named}
use Rattle.wv_pool.specs.References.{entry_of, text_in, text_of, IsSound, IsPool}
use Rattle.wv_frames.specs.declared.raw.RawFrame.{RawFrame}
use Rattle.wv_frames.specs.Whole.{frames_from}
use Rattle.wv_code.specs.declared.raw_body.RawAttribute.{RawAttribute}
use Rattle.wv_code.specs.declared.raw_body.RawAttribute.TheVariants as attributes
use Rattle.wv_code.specs.Constants.{constants_in, all_constants}
use Rattle.wv_code.specs.Formed.{IsFormed}
use Rattle.wv_code.specs.Entering.{short_constant, short_constants, Enters, none, next, MeetsFull}
use Rattle.wv_code.specs.Laying.{IsWidened}
use Rattle.wv_code.specs.Meaning.{NamesConstant, Means}
use Rattle.wv_code.specs.Code.{AllMean, AreWidened}
use Rattle.wv_code.specs.Writing.{WritesCode}
use Rattle.wv_code.specs.Content.{named_bytes, attribute_bytes, NamesFrames, IsKept, IsAttribute}
use Rattle.wv_code.specs.Body.{AreFramesOf, frames_in, kept_name, kept_in}
use Rattle.wv_code.specs.FormedBody.{IsCaught, IsFormedRange, IsFormedType, AreFormedFrom, IsFormedKept, table_count, IsFormedBody}
use Rattle.wv_code.specs.BodyConstants.{caught_class, range_constants, type_constants, frame_constants, table_names, table_constants, other_constants, body_constants}
use Rattle.wv_code.specs.WritingBody.{HasRoom, HasBytes, written_bytes, WritesTables}
use Rattle.wv_code.proofs.Lists.{AllByRecursion-map}
use Rattle.wv_code.proofs.Written.{all_front, all_back, long_kept}
use Rattle.wv_code.proofs.OffsetFrames.{all_append}

-- ---- code stays what it is where constants are added

names_kept : (old new : List PoolEntry) (number : ℕ) (i : Insn) → ((n : ℕ) (c : Const) → constant_of old n ≡ Some c → constant_of new n ≡ Some c) → NamesConstant old number i → NamesConstant new number i
names_kept old new number i older h = AllByRecursion-map (λ c. constant_of old number ≡ Some c) (λ c. constant_of new number ≡ Some c) (constants_in i) (older number) h

means_kept : (old new : List PoolEntry) (offsets : List ℕ) (at : ℕ) (r : Raw) (i : Insn) → ((n : ℕ) (c : Const) → constant_of old n ≡ Some c → constant_of new n ≡ Some c) → Means old offsets at r i → Means new offsets at r i
means_kept old new offsets at (raws.Plain op) (insn.Plain o) older m = m
means_kept old new offsets at (raws.Push op value) (insn.Push o v) older m = m
means_kept old new offsets at (raws.Load op number) (insn.Load o value) older m = (m.0, names_kept old new number (insn.Load o value) older m.1)
means_kept old new offsets at (raws.Local op slot wide) (insn.Local o s w) older m = m
means_kept old new offsets at (raws.Inc slot by wide) (insn.Inc s b w) older m = m
means_kept old new offsets at (raws.Branch op distance) (insn.Branch o to) older m = m
means_kept old new offsets at (raws.Table low high other ds) (insn.Table l to targets) older m = m
means_kept old new offsets at (raws.Lookup other rs) (insn.Lookup to cases) older m = m
means_kept old new offsets at (raws.Reference op number) (insn.Reference o owner name descriptor flag) older m = (m.0, names_kept old new number (insn.Reference o owner name descriptor flag) older m.1, m.2)
means_kept old new offsets at (raws.Interface number count last) (insn.Reference o owner name descriptor flag) older m =
    (m.0, names_kept old new number (insn.Reference o owner name descriptor flag) older m.1, m.2, m.3)
means_kept old new offsets at (raws.Dynamic number) (insn.Site bootstrap name descriptor) older m = names_kept old new number (insn.Site bootstrap name descriptor) older m
means_kept old new offsets at (raws.Class op number) (insn.Class o name) older m = (m.0, names_kept old new number (insn.Class o name) older m.1)
means_kept old new offsets at (raws.NewArray kind) (insn.NewArray k) older m = m
means_kept old new offsets at (raws.MultiArray number dims) (insn.MultiArray name d) older m = (names_kept old new number (insn.MultiArray name d) older m.0, m.1)
means_kept old new offsets at _ _ older m = absurd m

mean_kept : (old new : List PoolEntry) (offsets : List ℕ) (rs : List Raw) (ats : List ℕ) (insns : List Insn) → ((n : ℕ) (c : Const) → constant_of old n ≡ Some c → constant_of new n ≡ Some c) → AllMean old offsets rs ats insns → AllMean new offsets rs ats insns
mean_kept old new offsets [] [] [] older h = tt
mean_kept old new offsets [] [] (i ∷ insns) older h = absurd h
mean_kept old new offsets [] (o ∷ ats) insns older h = absurd h
mean_kept old new offsets (r ∷ rs) [] insns older h = absurd h
mean_kept old new offsets (r ∷ rs) (o ∷ ats) [] older h = absurd h
mean_kept old new offsets (r ∷ rs) (o ∷ ats) (i ∷ insns) older h = (means_kept old new offsets o r i older h.0, mean_kept old new offsets rs ats insns older h.1)

widened_one : (old new : List PoolEntry) (i : Insn) (long : Bool) → AllByRecursion (IsSound old) old → Keeps old new → ((n : ℕ) (c : Const) → constant_of old n ≡ Some c → constant_of new n ≡ Some c) → AllByRecursion (Named old) (short_constant i) → IsWidened old i long
    → IsWidened new i long
widened_one old new (insn.Load op value) long sound kept older named h = λ is. long_kept old new value long sound kept older (rw is at named).0 (h is)
widened_one old new _ long sound kept older named h = h

widened_kept : (old new : List PoolEntry) (insns others : List Insn) → AllByRecursion (IsSound old) old → Keeps old new → ((n : ℕ) (c : Const) → constant_of old n ≡ Some c → constant_of new n ≡ Some c) → AllByRecursion (Named old) (short_constants insns)
    → AreWidened old insns others → AreWidened new insns others
widened_kept old new [] [] sound kept older named h = tt
widened_kept old new [] (j ∷ others) sound kept older named h = absurd h
widened_kept old new (i ∷ insns) [] sound kept older named h = absurd h
widened_kept old new (i ∷ insns) (j ∷ others) sound kept older named h = (
  (h.0.0, widened_one old new i h.0.0 sound kept older (all_front (Named old) (short_constant i) (short_constants insns) named) h.0.1, h.0.2),
  widened_kept old new insns others sound kept older (all_back (Named old) (short_constant i) (short_constants insns) named) h.1,
)

pub code_kept : (old new : List PoolEntry) (insns : List Insn) (offsets code : List ℕ) → IsPool old → Keeps old new → ((n : ℕ) (c : Const) → constant_of old n ≡ Some c → constant_of new n ≡ Some c) → AllByRecursion (Named old) (short_constants insns)
    → WritesCode old insns offsets code → WritesCode new insns offsets code
code_kept old new insns offsets code pool kept older named w = record {
  others = w.others;
  widened_are = widened_kept old new insns w.others pool.1 kept older named w.widened_are;
  spelled = record { raws = w.spelled.raws; follow = w.spelled.follow; mean = mean_kept old new offsets w.spelled.raws offsets w.others older w.spelled.mean };
}

-- ---- constants one behind the other

pub enters_then : (old middle new : List PoolEntry) (xs ys : List Const) → Enters old xs middle → Enters middle ys new → Enters old (xs ++ ys) new
enters_then old middle new xs ys first none = subst (λ (t : List Const). Enters old t new) (sym (append-nil xs)) first
enters_then old middle new xs ys first (next {cs = cs} {c = c} {middle = last} e p) =
    subst (λ (t : List Const). Enters old t new) (append_assoc xs cs (c ∷ [])) (next (enters_then old middle last xs cs first e) p)

pub full_first : (old : List PoolEntry) (xs ys : List Const) → MeetsFull old xs → MeetsFull old (xs ++ ys)
full_first old xs ys m = record {
  before = m.before;
  constant = m.constant;
  after = m.after ++ ys;
  pool = m.pool;
  parts = ap (λ (t : List Const). t ++ ys) m.parts ∙ append_assoc m.before (m.constant ∷ m.after) ys;
  entered = m.entered;
  full = m.full;
}

pub full_then : (old middle : List PoolEntry) (xs ys : List Const) → Enters old xs middle → MeetsFull middle ys → MeetsFull old (xs ++ ys)
full_then old middle xs ys first m = record {
  before = xs ++ m.before;
  constant = m.constant;
  after = m.after;
  pool = m.pool;
  parts = ap (λ (t : List Const). xs ++ t) m.parts ∙ sym (append_assoc xs m.before (m.constant ∷ m.after));
  entered = enters_then old middle m.pool xs m.before first m.entered;
  full = m.full;
}

-- ---- what a formed body names, a pool may hold

all_flat : {X : Type 0} (P : X → Type 0) (Q : Const → Type 0) (f : X → List Const) (xs : List X) → ((x : X) → P x → AllByRecursion Q (f x)) → AllByRecursion P xs → AllByRecursion Q (flat_map f xs)
all_flat P Q f [] each h = tt
all_flat P Q f (x ∷ xs) each h = all_append Q (f x) (flat_map f xs) (each x h.0) (all_flat P Q f xs each h.1)

caught_allowed : (caught : Option (List ℕ)) → IsCaught caught → AllByRecursion IsAllowed (caught_class caught)
caught_allowed (Some name) h = (h, tt)
caught_allowed _ h = tt

type_allowed : (insns : List Insn) (t : VType) → IsFormedType insns t → AllByRecursion IsAllowed (type_constants t)
type_allowed insns (vtypes.Class name) h = (h, tt)
type_allowed insns _ h = tt

frames_allowed : (insns : List Insn) (from : ℕ) (frames : List FrameAt) → AreFormedFrom insns from frames → AllByRecursion IsAllowed (flat_map frame_constants frames)
frames_allowed insns from [] h = tt
frames_allowed insns from (one ∷ others) h =
    all_append IsAllowed (frame_constants one) (flat_map frame_constants others)
    (all_append IsAllowed (flat_map type_constants one.frame.locals) (flat_map type_constants one.frame.stack)
    (all_flat (IsFormedType insns) IsAllowed type_constants one.frame.locals (type_allowed insns) h.2.0.1) (all_flat (IsFormedType insns) IsAllowed type_constants one.frame.stack (type_allowed insns) h.2.1.1))
    (frames_allowed insns (one.at + 1) others h.3)

names_allowed : (frames : List FrameAt) → AllByRecursion IsAllowed (table_names frames)
names_allowed [] = tt
names_allowed (one ∷ others) = (omega arith, tt)

pub others_allowed : (pool : List PoolEntry) (body : Body) → IsFormedBody pool body → AllByRecursion IsAllowed (other_constants body)
others_allowed pool body formed =
    all_append IsAllowed (flat_map range_constants body.ranges) (table_constants body.frames)
    (all_flat (IsFormedRange (length body.insns)) IsAllowed range_constants body.ranges (λ r h. caught_allowed r.catch h.3) formed.ranges.1)
    (all_append IsAllowed (flat_map frame_constants body.frames) (table_names body.frames) (frames_allowed body.insns 0 body.frames formed.frames.1) (names_allowed body.frames))

pub body_allowed : (pool : List PoolEntry) (body : Body) → IsFormedBody pool body → AllByRecursion IsAllowed (body_constants body)
body_allowed pool body formed =
    all_append IsAllowed (all_constants body.insns) (other_constants body)
    (all_flat (IsFormed (length body.insns)) IsAllowed constants_in body.insns (λ i h. h.0) formed.insns)
    (others_allowed pool body formed)

-- ---- attributes that are kept

front_get : {X : Type 0} (xs ys : List X) (k : ℕ) → k < length xs → slice_get (xs ++ ys) k ≡ slice_get xs k
front_get [] ys k lt = absurd (omega arith)
front_get (x ∷ xs) ys zero lt = refl
front_get (x ∷ xs) ys (suc k) lt = front_get xs ys k (omega arith)

entry_front : (pool more : List PoolEntry) (n : ℕ) → n ≤ length pool → entry_of (pool ++ more) n ≡ entry_of pool n
entry_front pool more zero le = refl
entry_front pool more (suc place) le = front_get pool more place (omega arith)

-- a number of an older pool names what it named
names_none : (old new : List PoolEntry) (n : ℕ) → Keeps old new → n ≤ length old → (NamesFrames old n → ⊥) → NamesFrames new n → ⊥
names_none old new n kept le never h =
    let same : text_of new n ≡ text_of old n = ap (λ (p : List PoolEntry). text_of p n) kept.1 ∙ ap text_in (entry_front old kept.0 n le) in never (sym same ∙ h)

longer : (old new : List PoolEntry) → Keeps old new → length old ≤ length new
longer old new kept = omega (arith, ap length kept.1, length-append old kept.0)

kept_attribute : (old new : List PoolEntry) (a : Attribute) → Keeps old new → length new + 1 < 2 ^ 16 → IsFormedKept old a → HasBytes a → IsKept new a
kept_attribute old new a kept few formed bytes =
    (omega (arith, longer old new kept, formed.0), names_none old new a.name kept formed.0 formed.1, formed.2, bytes)

abbrev pub kepts : List Attribute → List RawAttribute
kepts [] = []
kepts (a ∷ others) = attributes.Kept a ∷ kepts others

pub kept_attributes : (old new : List PoolEntry) (kept : List Attribute) → Keeps old new → length new + 1 < 2 ^ 16 → AllByRecursion (IsFormedKept old) kept → AllByRecursion HasBytes kept → AllByRecursion (IsAttribute new) (kepts kept)
kept_attributes old new [] grown few formed bytes = tt
kept_attributes old new (a ∷ kept) grown few formed bytes = (kept_attribute old new a grown few formed.0 bytes.0, kept_attributes old new kept grown few formed.1 bytes.1)

pub kept_length : (kept : List Attribute) → length (kepts kept) ≡ length kept
kept_length [] = refl
kept_length (a ∷ kept) = ap suc (kept_length kept)

pub kept_bytes : (kept : List Attribute) → flat_map attribute_bytes (kepts kept) ≡ flat_map written_bytes kept
kept_bytes [] = refl
kept_bytes (a ∷ kept) = ap (λ (t : List ℕ). named_bytes a.name a.content ++ t) (kept_bytes kept)

pub kept_frames : (kept : List Attribute) (more : List RawAttribute) → frames_in (kepts kept ++ more) ≡ frames_in more
kept_frames [] more = refl
kept_frames (a ∷ kept) more = kept_frames kept more

name_kept : (pool : List PoolEntry) (name : ℕ) → name ≤ length pool → kept_name pool name ≡ name
name_kept pool name le = by_test (nat_le name (length pool)) refl
  where
    by_test : (t : Bool) → nat_le name (length pool) ≡ t → ◌≡◌ {A = ℕ} (if t then name else 0) name
    by_test true e = refl
    by_test false e = absurd (grind (arith, nat_tests))

pub kept_all : (old new : List PoolEntry) (kept : List Attribute) (more : List RawAttribute) → Keeps old new → AllByRecursion (IsFormedKept old) kept → flat_map (kept_in new) more ≡ [] → kept ≡ flat_map (kept_in new) (kepts kept ++ more)
kept_all old new [] more grown formed nothing = sym nothing
kept_all old new (a ∷ kept) more grown formed nothing =
    let same : kept_name new a.name ≡ a.name = name_kept new a.name (omega (arith, longer old new grown, formed.0.0)) in
    let head : a ≡ record { name = kept_name new a.name; content = a.content } = ap (λ (n : ℕ). record { name = n; content = a.content }) (sym same) in
    cc (head, kept_all old new kept more grown formed.1 nothing)

-- ---- the attribute of frames

pub record Tables (pool : List PoolEntry) (offsets : List ℕ) (frames : List FrameAt) (first : Frame) (tables : List Attribute) : Type 0 where
  pub raw : List RawAttribute
  pub all : AllByRecursion (IsAttribute pool) raw
  pub bytes : flat_map attribute_bytes raw ≡ flat_map written_bytes tables
  pub many : length raw ≡ length tables
  pub one : length raw ≤ 1
  pub nothing : flat_map (kept_in pool) raw ≡ []
  pub spelled : List FrameAt
  pub whole : frames_from pool 0 first.locals (frames_in raw) ≡ Some spelled
  pub frames_of : AreFramesOf offsets spelled frames
  pub found : (k name : ℕ) (fs : List RawFrame) → slice_get raw k ≡ Some (attributes.Frames name fs) → frames_from pool 0 first.locals fs ≡ Some spelled

frames_same : (a b : ℕ) (x y : List RawFrame) → Path (Option RawAttribute) (Some (attributes.Frames a x)) (Some (attributes.Frames b y)) → x ≡ y
frames_same a b x y e = cc

pub tables_of : (pool : List PoolEntry) (offsets : List ℕ) (frames : List FrameAt) (first : Frame) (tables : List Attribute) → WritesTables pool offsets frames first tables → Tables pool offsets frames first tables
tables_of pool offsets [] first [] w = record { raw = []; all = tt; bytes = refl; many = refl; one = omega arith; nothing = refl; spelled = []; whole = refl; frames_of = tt; found = λ k name fs e. absurd cc }
tables_of pool offsets [] first (a ∷ tables) w = absurd w
tables_of pool offsets (one ∷ others) first [] w = absurd w
tables_of pool offsets (one ∷ others) first (a ∷ b ∷ tables) w = absurd w
tables_of pool offsets (one ∷ others) first (a ∷ []) w = record {
  raw = attributes.Frames a.name w.3.table.raw ∷ [];
  all = ((w.0, w.1, w.3.table.layout, subst (λ (t : List ℕ). length t < 2 ^ 32) w.3.table.spelled w.2), tt);
  bytes = ap (λ (t : List ℕ). named_bytes a.name t ++ []) (sym w.3.table.spelled);
  many = refl;
  one = omega arith;
  nothing = refl;
  spelled = w.3.spelled;
  whole = subst (λ (t : List RawFrame). frames_from pool 0 first.locals t ≡ Some w.3.spelled) (sym (append-nil w.3.table.raw)) w.3.table.whole;
  frames_of = w.3.frames_of;
  found = found;
}
  where
    found : (k name : ℕ) (fs : List RawFrame) → slice_get (attributes.Frames a.name w.3.table.raw ∷ []) k ≡ Some (attributes.Frames name fs) → frames_from pool 0 first.locals fs ≡ Some w.3.spelled
    found zero name fs e = subst (λ (t : List RawFrame). frames_from pool 0 first.locals t ≡ Some w.3.spelled) (frames_same a.name name w.3.table.raw fs e) w.3.table.whole
    found (suc k) name fs e = absurd cc

pub tables_room : (pool : List PoolEntry) (offsets : List ℕ) (frames : List FrameAt) (first : Frame) (tables : List Attribute) → WritesTables pool offsets frames first tables → AllByRecursion HasRoom tables × (length tables ≡ table_count frames)
tables_room pool offsets [] first [] w = (tt, refl)
tables_room pool offsets [] first (a ∷ tables) w = absurd w
tables_room pool offsets (one ∷ others) first [] w = absurd w
tables_room pool offsets (one ∷ others) first (a ∷ b ∷ tables) w = absurd w
tables_room pool offsets (one ∷ others) first (a ∷ []) w = ((w.2, tt), refl)

-- a table stands behind what is kept
pub kept_get : (kept : List Attribute) (more : List RawAttribute) (k name : ℕ) (fs : List RawFrame) → slice_get (kepts kept ++ more) k ≡ Some (attributes.Frames name fs) → (j : ℕ) × (k ≡ length kept + j) × (slice_get more j ≡ Some (attributes.Frames name fs))
kept_get [] more k name fs e = (k, omega arith, e)
kept_get (a ∷ kept) more zero name fs e = absurd cc
kept_get (a ∷ kept) more (suc k) name fs e = let found = kept_get kept more k name fs e in (found.0, omega (arith, found.1), found.2)

-- what can be written still can where the pool has grown
pub formed_on : (old new : List PoolEntry) (body : Body) → Keeps old new → IsFormedBody old body → IsFormedBody new body
formed_on old new body grown formed = record {
  insns = formed.insns;
  some = formed.some;
  few = formed.few;
  ranges = formed.ranges;
  frames = formed.frames;
  kept = (
    formed.kept.0,
    AllByRecursion-map (IsFormedKept old) (IsFormedKept new) body.kept (λ a h. (omega (arith, longer old new grown, h.0), names_none old new a.name grown h.0 h.1, h.2)) formed.kept.1,
  );
}
