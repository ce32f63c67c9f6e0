-- What the reading of a StackMapTable answers, from the place of its fault.
use Rattle.std.proofs.Common.{◌≡◌, ℕ, ◌+◌, ◌-◌, ◌^◌, ◌<◌, ◌≤◌, List, [], ◌++◌, length, take, drop, Result, Ok, Err, min, refl, sym, ap, subst, ◌∙◌, inl, inr, arith, append_assoc}
use Rattle.std.proofs.lemmas.Bool.{cases_lt}
use Rattle.std.proofs.lemmas.List.{append-nil, length-take, take-append-drop, take_all, take-take}
use Rattle.wv_pool.proofs.PlainEntries.{IsBytes-take}
use Rattle.wv_frames.specs.declared.raw.RawFrame.{RawFrame}
use Rattle.wv_frames.specs.Spelling.{table_bytes, IsLayout}
use Rattle.wv_frames.specs.Layout.{BeginsTable, IsLayoutFault}
use Rattle.wv_frames.specs.Reading.{table_at}
use Rattle.wv_frames.proofs.Readers.{IsBytes}
use Rattle.wv_frames.proofs.TableReads.{was_read, read_again, layout_fault}
use Rattle.wv_code.specs.declared.raw_body.RawAttribute.TheVariants as attributes
use Rattle.wv_code.specs.Reading.{frames_at}

-- a shorter front begins a table too
shorter : (size k n : ℕ) (bytes : List ℕ) → k ≤ n → BeginsTable size (take n bytes) → BeginsTable size (take k bytes)
shorter size k n bytes le b =
    let front : take k (take n bytes) ≡ take k bytes = take-take k n bytes le in
    let whole : take k bytes ++ (drop k (take n bytes) ++ b.more) ≡ take n bytes ++ b.more =
    sym (append_assoc (take k bytes) (drop k (take n bytes)) b.more) ∙ ap (λ (z : List ℕ). z ++ b.more) (ap (λ (z : List ℕ). z ++ drop k (take n bytes)) (sym front) ∙ take-append-drop k (take n bytes)) in
    record { frames = b.frames; more = drop k (take n bytes) ++ b.more; layout = b.layout; bytes = whole ∙ b.bytes; sized = b.sized }

whole_begins : (bytes : List ℕ) (raw : List RawFrame) (size : ℕ) → IsLayout raw → bytes ≡ table_bytes raw → length bytes ≡ size → BeginsTable size bytes
whole_begins bytes raw size is e len = record { frames = raw; more = []; layout = is; bytes = append-nil bytes ∙ e; sized = omega (arith, ap length e, len) }

-- a table has no fault
no_fault : (missing : ℕ) (bytes : List ℕ) (at : ℕ) (raw : List RawFrame) → IsLayoutFault missing bytes at → IsLayout raw → bytes ≡ table_bytes raw → missing ≡ 0 → ⊥
no_fault missing bytes at raw f is e none =
    let begins : BeginsTable (length bytes + missing) bytes = whole_begins bytes raw (length bytes + missing) is e (omega (arith, none)) in
    elim (cases_lt at (length bytes)) [
      | inl lt ↦ f.none lt (shorter (length bytes + missing) (at + 1) (length bytes) bytes (omega (arith, lt)) (subst (λ (z : List ℕ). BeginsTable (length bytes + missing) z) (sym (take_all (length bytes) bytes (omega arith))) begins))
      | inr le ↦ absurd (let some : 0 < missing = f.ended (omega (arith, le, f.within)) begins in omega (arith, some, none))
    ]

-- a fault has one place
not_before : (missing : ℕ) (bytes : List ℕ) (p q : ℕ) → IsLayoutFault missing bytes p → IsLayoutFault missing bytes q → p < q → ⊥
not_before missing bytes p q f g lt = f.none (omega (arith, lt, g.within)) (shorter (length bytes + missing) (p + 1) q bytes (omega (arith, lt)) (g.begun (omega (arith, lt))))

one_place : (missing : ℕ) (bytes : List ℕ) (p q : ℕ) → IsLayoutFault missing bytes p → IsLayoutFault missing bytes q → p ≡ q
one_place missing bytes p q f g = elim (cases_lt p q) [
  | inl lt ↦ absurd (not_before missing bytes p q f g lt)
  | inr le ↦ elim (cases_lt q p) [
    | inl lt ↦ absurd (not_before missing bytes q p g f lt)
    | inr other ↦ omega (arith, le, other)
  ]
]

pub table_stops : (missing : ℕ) (bytes : List ℕ) (at : ℕ) → IsBytes bytes → length bytes + missing < 2 ^ 32 → IsLayoutFault missing bytes at → table_at missing bytes ≡ Err (length bytes - at)
table_stops missing bytes at fits small f = go (table_at missing bytes) refl
  where
    go : (r : Result (List RawFrame × List ℕ) ℕ) → table_at missing bytes ≡ r → table_at missing bytes ≡ Err (length bytes - at)
    go (Ok x) e = let w = was_read missing bytes x fits e in absurd (no_fault missing bytes at x.0 f w.0 w.1 w.2)
    go (Err left) e =
        let l = layout_fault missing bytes left fits small e in
        let same : length bytes - left ≡ at = one_place missing bytes (length bytes - left) at l.1 f in
        e ∙ ap Err (omega (arith, l.0, same, f.within))

-- so many bytes, or all
some_or_all : (len there : ℕ) (bytes : List ℕ) → there ≡ min (length bytes) len → take len bytes ≡ take there bytes
some_or_all len there bytes e = elim (cases_lt len (length bytes)) [
  | inl lt ↦ ap (λ (k : ℕ). take k bytes) (omega (arith, e, lt))
  | inr le ↦ take_all len bytes le ∙ sym (take_all there bytes (omega (arith, e, le)))
]

pub frames_ok : (name len there : ℕ) (bytes : List ℕ) (raw : List RawFrame) → there ≡ min (length bytes) len → IsLayout raw → take there bytes ≡ table_bytes raw → len - there ≡ 0 → frames_at name len bytes ≡ Ok (attributes.Frames name raw, drop there bytes)
unfolding frames_at
frames_ok name len there bytes raw e is spelled none =
    let same : there ≡ len = omega (arith, e, none) in
    let gone : len - length bytes ≡ 0 = omega (arith, e, none) in
    let window : take len bytes ≡ table_bytes raw = some_or_all len there bytes e ∙ spelled in
    rw (gone, window, read_again raw is) (ap (λ (k : ℕ). Ok (attributes.Frames name raw, drop k bytes)) (sym same))

pub frames_err : (name len there : ℕ) (bytes : List ℕ) (at : ℕ) → IsBytes bytes → len < 2 ^ 32 → there ≡ min (length bytes) len → IsLayoutFault (len - there) (take there bytes) at → frames_at name len bytes ≡ Err (length bytes - at)
unfolding frames_at
frames_err name len there bytes at fits small e f =
    let size : length (take there bytes) ≡ there = omega (arith, length-take there bytes, e) in
    let stop = table_stops (len - there) (take there bytes) at (IsBytes-take there bytes fits) (omega (arith, size, e, small)) f in
    let gone : len - length bytes ≡ len - there = omega (arith, e) in
    let within : at ≤ length (take there bytes) = f.within in
    rw (gone, some_or_all len there bytes e, stop) (ap Err (omega (arith, within, size, e)))
