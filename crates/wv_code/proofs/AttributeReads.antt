-- The attributes of a Code attribute: how each is read, and what fits.
use Rattle.std.proofs.Common.{◌≡◌, ℕ, zero, suc, ◌+◌, ◌-◌, ◌^◌, ◌<◌, ◌≤◌, false, ltb, List, [], ◌∷◌, ◌++◌, length, take, drop, replicate, Result, Ok, Err, refl, sym, ap, subst, ◌∙◌, inl, inr, arith, append_assoc}
use Rattle.std.proofs.lemmas.Bool.{ltb-true, ltb-false, le-ltb}
use Rattle.std.proofs.lemmas.List.{length-append, take-append-drop, length-take, length-drop, length-replicate, take_at, drop_at, take_all}
use Rattle.wv_frames.specs.declared.raw.RawFrame.{RawFrame}
use Rattle.wv_frames.specs.Spelling.{table_bytes, IsLayout}
use Rattle.wv_frames.specs.Reading.{table_at}
use Rattle.wv_frames.proofs.Readers.{IsBytes, Fill, Begun, Stopped, Taken, Reads, ok_is}
use Rattle.std.proofs.Math.Seq.{take-append-add}
use Rattle.wv_room.specs.Frames.{FramesFill}
use Rattle.wv_room.specs.Frames as fills
use Rattle.wv_room.proofs.FrameSizes.{reached}
use Rattle.wv_pool.proofs.PlainEntries.{IsBytes-take}
use Rattle.wv_frames.proofs.Tags.{chosen_ok, chosen_err}
use Rattle.wv_frames.proofs.FrameParts.{TableText, TableFill, table_read}
use Rattle.wv_frames.proofs.TableReads.{some_table, was_read, read_again}
use Rattle.wv_code.specs.declared.raw_body.RawAttribute.{RawAttribute}
use Rattle.wv_code.specs.declared.raw_body.RawAttribute.TheVariants as attributes
use Rattle.wv_code.specs.Reading.{kept_at, frames_found, frames_at}
use Rattle.wv_code.proofs.Numbers.{AreBytes, are_bytes, are_take}
use Rattle.wv_code.proofs.ContentParts.{Span}

-- ---- bytes that are kept

abbrev pub KeptText : ℕ → ℕ → RawAttribute → List ℕ → Type 0
KeptText name len a text = (a ≡ attributes.Kept (record { name = name; content = text })) × (length text ≡ len) × AreBytes text

abbrev kept : ℕ → List ℕ → RawAttribute
kept name text = attributes.Kept (record { name = name; content = text })

front_bytes : (front back : List ℕ) → AreBytes (front ++ back) → AreBytes front
front_bytes [] back h = tt
front_bytes (b ∷ front) back h = (h.0, front_bytes front back h.1)

join_bytes : (front back : List ℕ) → AreBytes front → AreBytes back → AreBytes (front ++ back)
join_bytes [] back f b = b
join_bytes (x ∷ front) back f b = (f.0, join_bytes front back f.1 b)

zeros : (n : ℕ) → AreBytes (replicate n 0)
zeros zero = tt
zeros (suc n) = (omega arith, zeros n)

pub kept_read : (name len : ℕ) (Q : ℕ → Type 0) → Reads (λ missing. kept_at name len) (KeptText name len) (Span len Q) (λ _. Q)
kept_read name len Q = record { takes = takes; again = again; stops = stops; there = there; back = back }
  where
    takes : (missing : ℕ) (bytes : List ℕ) (x : RawAttribute × List ℕ) → IsBytes bytes → Span len Q (length bytes + missing) → kept_at name len bytes ≡ Ok x → Taken (KeptText name len) (λ _. Q) missing bytes x
    takes missing bytes x fits p e =
        let g = chosen_ok (ltb (length bytes) len) 0 (kept name (take len bytes), drop len bytes) x e in
        let long : len ≤ length bytes = ltb-false _ _ g.0 in
        subst (λ (y : RawAttribute × List ℕ). Taken (KeptText name len) (λ _. Q) missing bytes y) g.1 (record {
          text = take len bytes;
          parts = sym (take-append-drop len bytes);
          spelled = (refl, omega (arith, length-take len bytes, long), are_take len bytes (are_bytes bytes fits));
          rest = subst Q (omega (arith, length-drop len bytes, long, p.sum)) p.rest;
        })

    again : (missing : ℕ) (value : RawAttribute) (text rest : List ℕ) → KeptText name len value text → Q (length rest + missing) → kept_at name len (text ++ rest) ≡ Ok (value, rest)
    again missing value text rest s q =
        let long : ltb (length (text ++ rest)) len ≡ false = le-ltb _ _ (omega (arith, length-append text rest, s.1)) in
        let one : take len (text ++ rest) ≡ text = take_at text rest len s.1 in
        let two : drop len (text ++ rest) ≡ rest = drop_at text rest len s.1 in
        rw (long, one, two, s.0) refl

    ended : (missing : ℕ) (bytes : List ℕ) → AreBytes bytes → length bytes < len → Span len Q (length bytes + missing) → Begun (KeptText name len) (λ _. Q) bytes missing
    ended missing bytes are lt p =
        let more : List ℕ = replicate (len - length bytes) 0 in
        let long : length more ≡ len - length bytes = length-replicate {A = ℕ} (len - length bytes) 0 in
        record {
          value = kept name (bytes ++ more);
          more = more;
          extra = p.more;
          spelled = (refl, omega (arith, length-append bytes more, long, lt), join_bytes bytes more are (zeros (len - length bytes)));
          rest = p.rest;
          sum = omega (arith, p.sum, long, lt);
        }

    stops : (missing : ℕ) (bytes : List ℕ) (left : ℕ) → IsBytes bytes → Span len Q (length bytes + missing) → kept_at name len bytes ≡ Err left → Stopped (λ missing. kept_at name len) (KeptText name len) (λ _. Q) missing bytes left
    stops missing bytes left fits p e =
        let g = chosen_err (ltb (length bytes) len) 0 left (kept name (take len bytes), drop len bytes) e in
        let lt : length bytes < len = ltb-true _ _ g.0 in
        inr (record { place = sym g.1; some = omega (arith, lt, p.sum); begun = ended missing bytes (are_bytes bytes fits) lt p })

    there : (n : ℕ) → Span len Q n → Fill (KeptText name len) (λ _. Q) n
    there n p = record { value = kept name (replicate len 0); text = replicate len 0; more = p.more; spelled = (refl, length-replicate {A = ℕ} len 0, zeros len); rest = p.rest; sum = omega (arith, p.sum, length-replicate {A = ℕ} len 0) }

    back : (value : RawAttribute) (text : List ℕ) (m : ℕ) → KeptText name len value text → Q m → Span len Q (length text + m)
    back value text m s q = record { more = m; sum = omega (arith, s.1); rest = q }

-- ---- the frames of a StackMapTable

abbrev pub FramesText : ℕ → ℕ → RawAttribute → List ℕ → Type 0
FramesText name len a text = (fs : List RawFrame) × (a ≡ attributes.Frames name fs) × (length text ≡ len) × IsLayout fs × (text ≡ table_bytes fs)

no_frames_left : {n : ℕ} → FramesFill 0 0 0 0 n → n ≡ 0
no_frames_left h = let r = reached h in omega (arith, r.size, r.takes.most)

found_ok : (name behind : ℕ) (rest : List ℕ) (r : Result (List RawFrame × List ℕ) ℕ) (x : RawAttribute × List ℕ) → frames_found name rest behind r ≡ Ok x → (y : List RawFrame × List ℕ) × (r ≡ Ok y) × ((attributes.Frames name y.0, rest) ≡ x)
found_ok name behind rest (Ok y) x e = (y, refl, ok_is (attributes.Frames name y.0, rest) x e)
found_ok name behind rest (Err l) x e = absurd cc

found_err : (name behind : ℕ) (rest : List ℕ) (r : Result (List RawFrame × List ℕ) ℕ) (left : ℕ) → frames_found name rest behind r ≡ Err left → (l : ℕ) × (r ≡ Err l) × (l + behind ≡ left)
found_err name behind rest (Ok y) left e = absurd cc
found_err name behind rest (Err l) left e = (l, refl, cc)

pub frames_table : (name len : ℕ) (Q : ℕ → Type 0) → 2 ≤ len → len < 2 ^ 32 → Reads (λ missing. frames_at name len) (FramesText name len) (Span len Q) (λ _. Q)
unfolding frames_at
frames_table name len Q low high = record { takes = takes; again = again; stops = stops; there = there; back = back }
  where
    fits_table : (n : ℕ) → n ≡ len → TableFill n
    fits_table n e =
        let t = some_table len low high in
        subst TableFill (omega (arith, t.2, e)) (table_read.back t.0 (table_bytes t.0) 0 (t.1, refl) fills.bytes)

    takes : (missing : ℕ) (all : List ℕ) (x : RawAttribute × List ℕ) → IsBytes all → Span len Q (length all + missing) → frames_at name len all ≡ Ok x → Taken (FramesText name len) (λ _. Q) missing all x
    takes missing all x fits p e =
        let window : List ℕ = take len all in
        let gone : ℕ = len - length all in
        let g = found_ok name (length all - len) (drop len all) (table_at gone window) x e in
        let w = was_read gone window g.0 (IsBytes-take len all fits) g.1 in
        let long : len ≤ length all = omega (arith, w.2) in
        subst (λ (y : RawAttribute × List ℕ). Taken (FramesText name len) (λ _. Q) missing all y) g.2 (record {
          text = window;
          parts = sym (take-append-drop len all);
          spelled = (g.0.0, refl, omega (arith, length-take len all, long), w.0, w.1);
          rest = subst Q (omega (arith, length-drop len all, long, p.sum)) p.rest;
        })

    again : (missing : ℕ) (value : RawAttribute) (text rest : List ℕ) → FramesText name len value text → Q (length rest + missing) → frames_at name len (text ++ rest) ≡ Ok (value, rest)
    again missing value text rest s q =
        let one : take len (text ++ rest) ≡ text = take_at text rest len s.2 in
        let two : drop len (text ++ rest) ≡ rest = drop_at text rest len s.2 in
        let none : len - length (text ++ rest) ≡ 0 = omega (arith, length-append text rest, s.2) in
        rw (one, two, none, s.4, read_again s.0 s.3, s.1) refl

    frames_begun : (front : List ℕ) (n m : ℕ) (p : Q m) → length front + n ≡ len → Begun TableText (λ _. FramesFill 0 0 0 0) front n → Begun (FramesText name len) (λ _. Q) front (n + m)
    frames_begun front n m p sum b =
        let none : b.extra ≡ 0 = no_frames_left b.rest in
        record {
          value = attributes.Frames name b.value;
          more = b.more;
          extra = m;
          spelled = (b.value, refl, omega (arith, length-append front b.more, b.sum, none, sum), b.spelled.0, b.spelled.1);
          rest = p;
          sum = omega (arith, b.sum, none);
        }

    stops : (missing : ℕ) (all : List ℕ) (left : ℕ) → IsBytes all → Span len Q (length all + missing) → frames_at name len all ≡ Err left → Stopped (λ missing. frames_at name len) (FramesText name len) (λ _. Q) missing all left
    stops missing all left fits p e =
        let window : List ℕ = take len all in
        let gone : ℕ = len - length all in
        let tail : List ℕ = drop len all in
        let g = found_err name (length all - len) tail (table_at gone window) left e in
        let whole : all ≡ window ++ tail = sym (take-append-drop len all) in
        let sizes : length window + gone ≡ len = omega (arith, length-take len all) in
        elim (table_read.stops gone window g.0 (IsBytes-take len all fits) (fits_table (length window + gone) sizes) g.1) [
          | inl d ↦
              let inside : length window ≡ length d.front + suc (length d.rest) = ap length d.parts ∙ length-append d.front (d.byte ∷ d.rest) in
              inl (record {
                front = d.front;
                byte = d.byte;
                rest = d.rest ++ tail;
                parts = whole ∙ ap (λ (z : List ℕ). z ++ tail) d.parts ∙ append_assoc d.front (d.byte ∷ d.rest) tail;
                place = omega (arith, g.2, d.place, length-append d.rest tail, length-drop len all, inside, sizes);
                begun = subst (λ (k : ℕ). Begun (FramesText name len) (λ _. Q) d.front k) (omega (arith, p.sum, length-append d.rest tail, length-drop len all, inside, sizes, ap length whole, length-append window tail))
                    (frames_begun d.front (suc (length d.rest + gone)) p.more p.rest (omega (arith, inside, sizes)) d.begun);
                stays = λ others more same. stays all others more d.front d.byte (length d.rest + gone) (omega (arith, inside, sizes)) d.stays;
              })
          | inr d ↦
              let short_all : length all < len = omega (arith, d.some) in
              let is : window ≡ all = take_all len all (omega (arith, short_all)) in
              inr (record {
                place = omega (arith, g.2, d.place, short_all);
                some = omega (arith, short_all, p.sum);
                begun = subst (λ (k : ℕ). Begun (FramesText name len) (λ _. Q) all k) (omega (arith, p.sum, short_all)) (subst (λ (z : List ℕ). Begun (FramesText name len) (λ _. Q) z (gone + p.more)) is (frames_begun window gone p.more p.rest sizes d.begun));
              })
        ]
      where
        stays : (all others : List ℕ) (more : ℕ) (front : List ℕ) (byte total : ℕ) → length front + suc total ≡ len
            → ((some : List ℕ) (m : ℕ) → length some + m ≡ total → table_at m (front ++ byte ∷ some) ≡ Err (suc (length some))) → frames_at name len (front ++ byte ∷ others) ≡ Err (suc (length others))
        stays all others more front byte total sum table =
            let bytes_are : List ℕ = front ++ byte ∷ others in
            let size : length bytes_are ≡ length front + suc (length others) = length-append front (byte ∷ others) in
            let window : take len bytes_are ≡ front ++ byte ∷ take total others = ap (λ (k : ℕ). take k bytes_are) (sym sum) ∙ take-append-add front (byte ∷ others) (suc total) in
            let read = table (take total others) (len - length bytes_are) (omega (arith, length-take total others, size, sum)) in
            rw (window, read) (ap Err (omega (arith, length-take total others, size, sum)))

    there : (n : ℕ) → Span len Q n → Fill (FramesText name len) (λ _. Q) n
    there n p =
        let t = some_table len low high in
        record { value = attributes.Frames name t.0; text = table_bytes t.0; more = p.more; spelled = (t.0, refl, t.2, t.1, refl); rest = p.rest; sum = omega (arith, p.sum, t.2) }

    back : (value : RawAttribute) (text : List ℕ) (m : ℕ) → FramesText name len value text → Q m → Span len Q (length text + m)
    back value text m s q = record { more = m; sum = omega (arith, s.2); rest = q }
