-- What a table's reader answers, where it stops, and which sizes tables have.
use Rattle.std.proofs.Common.{◌≡◌, ℕ, suc, ◌+◌, ◌-◌, ◌*◌, ◌/◌, ◌%◌, ◌^◌, ◌<◌, ◌≤◌, List, [], ◌∷◌, ◌++◌, length, take, Result, Ok, Err, refl, sym, ap, subst, ◌∙◌, inl, inr, arith, append_assoc}
use Rattle.std.specs.List.{flat_map}
use Rattle.std.proofs.lemmas.Bool.{cases_lt}
use Rattle.std.proofs.lemmas.List.{append-nil, length-append, take_at, take_all, nil_from_length}
use Rattle.wv_room.specs.declared.frame_count.FrameKind.TheVariants as kinds
use Rattle.wv_room.specs.Frames.{FramesFill, bytes}
use Rattle.wv_room.proofs.FrameSizes.{reached, spelled}
use Rattle.wv_pool.specs.Reading.{◌>>=◌}
use Rattle.wv_pool.specs.Entries.{number_bytes}
use Rattle.wv_frames.specs.declared.raw.RawFrame.{RawFrame}
use Rattle.wv_frames.specs.Spelling.{frame_bytes, table_bytes, IsLayout}
use Rattle.wv_frames.specs.Layout.{BeginsTable, IsLayoutFault}
use Rattle.wv_frames.specs.Reading.{count_at, only_frames, frames_in, table_at}
use Rattle.wv_frames.proofs.Readers.{IsBytes, ok_is, Begun, Broken, Ended, Stopped, Taken, bind_ok}
use Rattle.wv_frames.proofs.Tags.{Short, CountRoom, count_takes}
use Rattle.wv_frames.proofs.Counting.{count_short}
use Rattle.wv_frames.proofs.FrameParts.{TableText, TableFill, table_alike, table_read}

abbrev Read : Type 0
Read = Result (List RawFrame × List ℕ) ℕ

abbrev Frames : Type 0
Frames = List RawFrame × List ℕ

abbrev Nothing : List RawFrame → ℕ → Type 0
Nothing _ = FramesFill 0 0 0 0

nothing_left : {n : ℕ} → FramesFill 0 0 0 0 n → n ≡ 0
nothing_left h = let r = reached h in omega (arith, r.size, r.takes.most)

-- ---- sizes

-- one frame more than the quotient by the most bytes of a frame, which is never the most but one
frames_enough : (m q r : ℕ) → 0 < m → m + 1 ≡ 393217 * q + r → r < 393217 → FramesFill 0 0 0 (q + 1) m
frames_enough m q r some e lt =
    spelled (record {
      more = m - (q + 1);
      size = omega (arith, some, e, lt);
      takes = record { most = omega (arith, some, e, lt); gap = λ _ is. omega (arith, some, e, lt, is); even = λ none. absurd (omega arith) };
    })

some_frames : (m : ℕ) → m + 2 < 2 ^ 32 → (f : ℕ) × (f < 2 ^ 16) × FramesFill 0 0 0 f m
some_frames m lt = elim (cases_lt 0 m) [
  | inl some ↦ (enough, omega arith, frames_enough m ((m + 1) / 393217) ((m + 1) % 393217) some (omega arith) (omega arith))
  | inr none ↦ (0, omega arith, subst (FramesFill 0 0 0 0) (omega arith) bytes)
]
  where
    enough : ℕ
    enough = (m + 1) / 393217 + 1

-- a count, and room for so many frames
table_fill : (n : ℕ) → 2 ≤ n → n < 2 ^ 32 → TableFill n
table_fill n ge lt =
    let f = some_frames (n - 2) (omega arith) in
    record {
      value = f.0;
      text = number_bytes f.0;
      more = n - 2;
      spelled = (f.1, refl);
      rest = subst (λ (k : ℕ). FramesFill 0 0 0 k (n - 2)) (omega arith) f.2;
      sum = omega (arith, ge);
    }

-- each size of an attribute's content is a table's, if it has room for the count
pub some_table : (n : ℕ) → 2 ≤ n → n < 2 ^ 32 → (raw : List RawFrame) × IsLayout raw × (length (table_bytes raw) ≡ n)
some_table n ge lt =
    let f = table_read.there n (table_fill n ge lt) in
    let none : f.more ≡ 0 = nothing_left f.rest in
    (f.value, f.spelled.0, omega (arith, ap length f.spelled.1, f.sum, none))

pub least_table : (raw : List RawFrame) → IsLayout raw → 2 ≤ length (table_bytes raw)
least_table raw is = omega (arith, length-append (number_bytes (length raw)) (flat_map frame_bytes raw))

-- ---- reading

abbrev behind_count : ℕ → ℕ × List ℕ → Read
behind_count missing x = frames_in missing x.0 x.1

-- where the count is read, some table fits
counted_fits : (missing : ℕ) (all : List ℕ) (x : ℕ × List ℕ) → Taken Short (CountRoom kinds.Frame (only_frames 0)) missing all x → TableFill (length all + missing)
counted_fits missing all x t = record { value = x.0; text = t.text; more = length x.1 + missing; spelled = t.spelled; rest = t.rest; sum = omega (arith, ap length t.parts, length-append t.text x.1) }

-- what is read was spelled so
pub was_read : (missing : ℕ) (all : List ℕ) (x : Frames) → IsBytes all → table_at missing all ≡ Ok x → IsLayout x.0 × (all ≡ table_bytes x.0) × (missing ≡ 0)
was_read missing all x fits e =
    let b = bind_ok (count_at missing kinds.Frame (only_frames 0) all) (behind_count missing) x (sym (table_alike missing all) ∙ e) in
    let t = table_read.takes missing all x fits (counted_fits missing all b.0 (count_takes kinds.Frame (only_frames 0) missing all b.0 fits b.1)) e in
    let end : length x.1 + missing ≡ 0 = nothing_left t.rest in
    let none : x.1 ≡ [] = nil_from_length x.1 (omega (arith, end)) in
    (t.spelled.0, t.parts ∙ ap (λ (z : List ℕ). t.text ++ z) none ∙ append-nil t.text ∙ t.spelled.1, omega (arith, end))

-- what is spelled so is read
pub read_again : (raw : List RawFrame) → IsLayout raw → table_at 0 (table_bytes raw) ≡ Ok (raw, [])
read_again raw is = ap (table_at 0) (sym (append-nil (table_bytes raw))) ∙ table_read.again 0 raw (table_bytes raw) [] (is, refl) bytes

whole_read : (missing : ℕ) (all : List ℕ) (raw : List RawFrame) → IsLayout raw → all ≡ table_bytes raw → missing ≡ 0 → table_at missing all ≡ Ok (raw, [])
whole_read missing all raw is spelled none = ap (λ (n : ℕ). table_at n all) none ∙ ap (table_at 0) spelled ∙ read_again raw is

pub only_read : (missing : ℕ) (all : List ℕ) (x : Frames) (raw : List RawFrame) → table_at missing all ≡ Ok x → IsLayout raw → all ≡ table_bytes raw → missing ≡ 0 → x.0 ≡ raw
only_read missing all x raw e is spelled none = ap (λ (y : Frames). y.0) (ok_is x (raw, []) (sym e ∙ whole_read missing all raw is spelled none))

pub none_read : (missing : ℕ) (all : List ℕ) (left : ℕ) (raw : List RawFrame) → table_at missing all ≡ Err left → IsLayout raw → all ≡ table_bytes raw → missing ≡ 0 → ⊥
none_read missing all left raw e is spelled none = let never : Path Read (Ok (raw, [])) (Err left) = sym (whole_read missing all raw is spelled none) ∙ e in cc

-- ---- faults

front_is : (all front rest : List ℕ) (n : ℕ) → all ≡ front ++ rest → n ≡ length front → take n all ≡ front
front_is all front rest n e len = ap (take n) e ∙ take_at front rest n (sym len)

-- what begins a table that fills all begins one of the size
begins_table : (front : List ℕ) (n size : ℕ) → size ≡ length front + n → Begun TableText Nothing front n → BeginsTable size front
begins_table front n size e d =
    let none : d.extra ≡ 0 = nothing_left d.rest in
    record {
      frames = d.value;
      more = d.more;
      layout = d.spelled.0;
      bytes = d.spelled.1;
      sized = sym (ap length d.spelled.1) ∙ omega (arith, length-append front d.more, d.sum, none, e);
    }

abbrev FaultLeft : ℕ → List ℕ → ℕ → Type 0
FaultLeft missing all left = (left ≤ length all) × IsLayoutFault missing all (length all - left)

-- the place where a reading stops for good is the fault
broken_fault : (missing : ℕ) (all : List ℕ) (left : ℕ) → Broken table_at TableText Nothing missing all left → FaultLeft missing all left
broken_fault missing all left d =
    let sizes : length all ≡ length d.front + suc (length d.rest) = ap length d.parts ∙ length-append d.front (d.byte ∷ d.rest) in
    let place : left ≡ suc (length d.rest) = d.place in
    let front : take (length all - left) all ≡ d.front = front_is all d.front (d.byte ∷ d.rest) _ d.parts (omega arith) in
    let longer : take (length all - left + 1) all ≡ d.front ++ d.byte ∷ [] = front_is all (d.front ++ d.byte ∷ []) d.rest _ (d.parts ∙ sym (append_assoc d.front (d.byte ∷ []) d.rest)) (omega (arith, length-append d.front (d.byte ∷ []))) in (
      omega arith,
      record {
        within = omega arith;
        begun = λ _. subst (BeginsTable (length all + missing)) (sym front) (begins_table d.front (suc (length d.rest + missing)) (length all + missing) (omega (arith, sizes)) d.begun);
        none = λ _ b. goes_on b.frames b.more b.layout (sym (append_assoc d.front (d.byte ∷ []) b.more) ∙ ap (λ (z : List ℕ). z ++ b.more) (sym longer) ∙ b.bytes) b.sized;
        ended = λ end. absurd (omega arith);
      },
    )
  where
    goes_on : (raw : List RawFrame) (more : List ℕ) → IsLayout raw → d.front ++ (d.byte ∷ more) ≡ table_bytes raw → length (table_bytes raw) ≡ length all + missing → ⊥
    goes_on raw more is spelled sized =
        let sizes : length all ≡ length d.front + suc (length d.rest) = ap length d.parts ∙ length-append d.front (d.byte ∷ d.rest) in
        let len : length more + 0 ≡ length d.rest + missing = omega (arith, sizes, sized, ap length spelled, length-append d.front (d.byte ∷ more)) in
        none_read 0 (d.front ++ d.byte ∷ more) (suc (length more)) raw (d.stays more 0 len) is spelled refl

-- the end of the bytes is the fault where others are missing
ended_fault : (missing : ℕ) (all : List ℕ) (left : ℕ) → Ended TableText Nothing missing all left → FaultLeft missing all left
ended_fault missing all left d =
    let end : length all - left ≡ length all = omega (arith, d.place) in (
      omega (arith, d.place),
      subst (IsLayoutFault missing all) (sym end)
          (record {
            within = omega arith;
            begun = λ _. subst (BeginsTable (length all + missing)) (sym (take_all (length all) all (omega arith))) (begins_table all missing (length all + missing) refl d.begun);
            none = λ lt. absurd (omega arith);
            ended = λ _ b. d.some;
          }),
    )

-- without room for the count nothing begins a table
short_fault : (missing : ℕ) (all : List ℕ) (left : ℕ) → length all + missing < 2 → table_at missing all ≡ Err left → FaultLeft missing all left
short_fault missing all left lt e =
    let at : left ≡ length all = err_is left (length all) (sym e ∙ table_alike missing all ∙ ap (λ (r : Result (ℕ × List ℕ) ℕ). r >>= behind_count missing) (count_short kinds.Frame (only_frames 0) missing all lt)) in
    let start : length all - left ≡ 0 = omega (arith, at) in (
      omega (arith, at),
      subst (IsLayoutFault missing all) (sym start)
          (record {
            within = omega arith;
            begun = λ some. absurd (omega arith);
            none = λ _ b. never (take 1 all) b;
            ended = λ _ b. absurd (never all b);
          }),
    )
  where
    err_is : (a b : ℕ) → Path Read (Err a) (Err b) → a ≡ b
    err_is a b same = cc

    never : (front : List ℕ) → BeginsTable (length all + missing) front → ⊥
    never front b = omega (arith, least_table b.frames b.layout, b.sized)

pub layout_fault : (missing : ℕ) (all : List ℕ) (left : ℕ) → IsBytes all → length all + missing < 2 ^ 32 → table_at missing all ≡ Err left → FaultLeft missing all left
layout_fault missing all left fits lt e = elim (cases_lt (length all + missing) 2) [
  | inl short ↦ short_fault missing all left short e
  | inr room ↦ stopped (table_read.stops missing all left fits (table_fill (length all + missing) room lt) e)
]
  where
    stopped : Stopped table_at TableText Nothing missing all left → FaultLeft missing all left
    stopped (inl d) = broken_fault missing all left d
    stopped (inr d) = ended_fault missing all left d
