-- A count that was read under its test is the one that is read from lists.
use Rattle.std.proofs.Common.{◌≡◌, ℕ, zero, suc, ◌+◌, ◌-◌, ◌*◌, ◌<◌, ◌≤◌, Bool, true, false, cond, List, [], ◌∷◌, ◌++◌, length, take, drop, Ok, Err, refl, sym, ap, subst, ◌∙◌, inl, inr, arith}
use Rattle.std.specs.List.{AllByRecursion}
use Rattle.std.proofs.lemmas.Bool.{cases_Bool}
use Rattle.wv_room.specs.declared.frames.Frames.{Frames}
use Rattle.wv_room.specs.declared.frame_count.FrameKind.{FrameKind}
use Rattle.wv_room.specs.Number.{number_of, BeginsWith, IsFirstFault}
use Rattle.wv_frames.specs.Reading.{begins_count, half_count, count_at}
use Rattle.wv_frames.proofs.Sizes.{fits_true, true_fits}
use Rattle.wv_frames.proofs.Readers.{IsBytes}
use Rattle.wv_frames.proofs.Tags.{CountRoom, test, at_pair, count_is, half_fails, some_true, true_some}

-- where a count of what fits in the room behind it first fails
abbrev pub FaultIn : FrameKind → Frames → ℕ → List ℕ → ℕ → Type 0
FaultIn kind besides room bytes place = IsFirstFault (λ n. CountRoom kind besides n room) 2 bytes place

module _ (kind : FrameKind) (besides : Frames) where
  of_pair : (h l : ℕ) → number_of (h ∷ l ∷ []) ≡ h * 256 + l
  of_pair h l = omega arith

  counted_pair : (missing h l : ℕ) (rest : List ℕ) (n : ℕ) → l < 256 → n ≡ h * 256 + l → CountRoom kind besides n (length rest + missing) → count_at missing kind besides (h ∷ l ∷ rest) ≡ Ok (n, rest)
  counted_pair missing h l rest n small same q =
      let room = length rest + missing in
      let here : test kind besides room h l ≡ true = true_fits _ room (subst (λ (k : ℕ). CountRoom kind besides k room) same q) in
      let some : begins_count kind besides room h ≡ true = true_some 256 l (test kind besides room h) small here in
      count_is kind besides missing h l rest ∙ ap (λ (s : Bool). at_pair kind besides h l rest s (test kind besides room h l)) some ∙ ap (at_pair kind besides h l rest true) here ∙ ap (λ (k : ℕ). Ok (k, rest)) (sym same)

  pub counted : (missing room : ℕ) (bytes : List ℕ) (n : ℕ) → 2 ≤ length bytes → room + 2 ≡ length bytes + missing → IsBytes bytes → n ≡ number_of (take 2 bytes) → CountRoom kind besides n room → count_at missing kind besides bytes ≡ Ok (n, drop 2 bytes)
  counted missing room [] n long size fits e q = absurd (omega arith)
  counted missing room (h ∷ []) n long size fits e q = absurd (omega arith)
  counted missing room (h ∷ l ∷ rest) n long size fits e q =
      counted_pair missing h l rest n (fits 1) (e ∙ of_pair h l) (subst (CountRoom kind besides n) (omega (arith, size)) q)

  begins_pair : (h k n : ℕ) → k < 256 → n ≡ h * 256 + k → BeginsWith 2 (h ∷ []) n
  begins_pair h k n lt e = record { rest = k ∷ []; bytes = (lt, tt); wide = refl; spelled = e ∙ sym (of_pair h k) }

  -- the second byte of a number that begins so
  second : (h n : ℕ) (rest : List ℕ) → length rest ≡ 1 → n ≡ number_of ((h ∷ []) ++ rest) → (k : ℕ) × (rest ≡ k ∷ []) × (n ≡ h * 256 + k)
  second h n [] len e = absurd (omega arith)
  second h n (k ∷ []) len e = (k, refl, e ∙ of_pair h k)
  second h n (k ∷ l ∷ rest) len e = absurd (omega arith)

  some_of : (room h n : ℕ) → CountRoom kind besides n room → BeginsWith 2 (h ∷ []) n → begins_count kind besides room h ≡ true
  some_of room h n q b =
      let s = second h n b.rest (omega (arith, b.wide)) b.spelled in
      let small : s.0 < 256 = (subst (AllByRecursion (λ k. k < 256)) s.1 b.bytes).0 in
      let here : test kind besides room h s.0 ≡ true = true_fits _ room (subst (λ (k : ℕ). CountRoom kind besides k room) s.2 q) in
      true_some 256 s.0 (test kind besides room h) small here

  none_of : (room h : ℕ) → ((n : ℕ) → CountRoom kind besides n room → BeginsWith 2 (h ∷ []) n → ⊥) → begins_count kind besides room h ≡ false
  none_of room h none = elim (cases_Bool (begins_count kind besides room h)) [
    | inl some ↦ let k = some_true 256 (test kind besides room h) some in absurd (none (h * 256 + k.0) (fits_true _ room k.2) (begins_pair h k.0 (h * 256 + k.0) k.1 refl))
    | inr fails ↦ fails
  ]

  no_first : (missing h l : ℕ) (rest : List ℕ) → begins_count kind besides (length rest + missing) h ≡ false → count_at missing kind besides (h ∷ l ∷ rest) ≡ Err (suc (suc (length rest)))
  no_first missing h l rest fails = count_is kind besides missing h l rest ∙ ap (λ (s : Bool). at_pair kind besides h l rest s (test kind besides (length rest + missing) h l)) fails

  no_second : (missing h l : ℕ) (rest : List ℕ) → begins_count kind besides (length rest + missing) h ≡ true → ((m : ℕ) → CountRoom kind besides m (length rest + missing) → BeginsWith 2 (h ∷ l ∷ []) m → ⊥) → count_at missing kind besides (h ∷ l ∷ rest) ≡ Err (suc (length rest))
  no_second missing h l rest some none = elim (cases_Bool (test kind besides room h l)) [
    | inl here ↦ absurd (none (h * 256 + l) (fits_true _ room here) (record { rest = []; bytes = tt; wide = refl; spelled = sym (of_pair h l) }))
    | inr fails ↦ count_is kind besides missing h l rest ∙ ap (λ (s : Bool). at_pair kind besides h l rest s (test kind besides room h l)) some ∙ ap (at_pair kind besides h l rest true) fails
  ]
    where
      room : ℕ
      room = length rest + missing

  half_begins : (missing room h : ℕ) → missing ≡ suc room → begins_count kind besides room h ≡ true → half_count missing kind besides h ≡ Err 0
  half_begins zero room h len some = absurd (omega arith)
  half_begins (suc missing) room h len some =
      let same : missing ≡ room = omega arith in
      ap (λ (n : ℕ). cond (begins_count kind besides n h) (Err 0) (Err 1)) same ∙ rw some refl

  -- the fault of a count of which a byte is there, and of one with both
  half_faults : (missing room h place : ℕ) → missing ≡ suc room → FaultIn kind besides room (h ∷ []) place → half_count missing kind besides h ≡ Err (1 - place)
  half_faults missing room h zero size f = elim f.stopped [
    | inl none ↦ absurd (omega arith)
    | inr none ↦ half_fails kind besides missing room h size (none_of room h none)
  ]
  half_faults missing room h (suc zero) size f = let b = f.begun (omega arith) in half_begins missing room h size (some_of room h b.0 b.1 b.2)
  half_faults missing room h (suc (suc place)) size f = absurd (omega (arith, f.within))

  pair_faults : (missing h l : ℕ) (rest : List ℕ) (place : ℕ) → FaultIn kind besides (length rest + missing) (h ∷ l ∷ rest) place → count_at missing kind besides (h ∷ l ∷ rest) ≡ Err (suc (suc (length rest)) - place)
  pair_faults missing h l rest zero f = elim f.stopped [
    | inl none ↦ absurd (omega arith)
    | inr none ↦ no_first missing h l rest (none_of (length rest + missing) h none) ∙ ap (λ (k : ℕ). Err k) (omega arith)
  ]
  pair_faults missing h l rest (suc zero) f = elim f.stopped [
    | inl none ↦ absurd (omega arith)
    | inr none ↦ let b = f.begun (omega arith) in no_second missing h l rest (some_of (length rest + missing) h b.0 b.1 b.2) none ∙ ap (λ (k : ℕ). Err k) (omega arith)
  ]
  pair_faults missing h l rest (suc (suc place)) f = absurd (omega (arith, f.within))

  pub not_counted : (missing room : ℕ) (bytes : List ℕ) (place : ℕ) → room + 2 ≡ length bytes + missing → FaultIn kind besides room bytes place → count_at missing kind besides bytes ≡ Err (length bytes - place)
  unfolding count_at
  not_counted missing room [] place size f = ap (λ (k : ℕ). Err k) (omega arith)
  not_counted missing room (h ∷ []) place size f = half_faults missing room h place (omega (arith, size)) f
  not_counted missing room (h ∷ l ∷ rest) place size f = pair_faults missing h l rest place (subst (λ (r : ℕ). FaultIn kind besides r (h ∷ l ∷ rest) place) (omega (arith, size)) f)

  -- no room for a count
  pub count_short : (missing : ℕ) (bytes : List ℕ) → length bytes + missing < 2 → count_at missing kind besides bytes ≡ Err (length bytes)
  unfolding count_at
  count_short missing [] lt = refl
  count_short zero (h ∷ []) lt = refl
  count_short (suc missing) (h ∷ []) lt = absurd (omega arith)
  count_short missing (h ∷ l ∷ rest) lt = absurd (omega arith)

  pub count_small : (bytes : List ℕ) (n : ℕ) → 2 ≤ length bytes → IsBytes bytes → n ≡ number_of (take 2 bytes) → n < 65536
  count_small [] n long fits e = absurd (omega arith)
  count_small (h ∷ []) n long fits e = absurd (omega arith)
  count_small (h ∷ l ∷ rest) n long fits e = omega (arith, e, of_pair h l, fits 0, fits 1)
