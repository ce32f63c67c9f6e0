-- Frames and tables: how they are read, and what fits.
use Rattle.std.proofs.Common.{◌≡◌, ℕ, zero, suc, ◌+◌, ◌-◌, ◌<◌, ◌≤◌, List, [], ◌∷◌, ◌++◌, length, Some, None, Result, Ok, refl, sym, ap, subst, ◌∙◌, inl, inr, arith}
use Rattle.std.specs.List.{flat_map, AllByRecursion}
use Rattle.std.proofs.lemmas.Bool.{cases_lt, lt-ltb, le-ltb}
use Rattle.wv_room.specs.declared.frame_count.FrameKind.TheVariants as kinds
use Rattle.wv_room.specs.Frames.{FramesFill}
use Rattle.wv_pool.specs.Reading.{◌>>=◌}
use Rattle.wv_pool.specs.Entries.{number_bytes}
use Rattle.wv_frames.specs.declared.raw.RawFrame.{RawFrame}
use Rattle.wv_frames.specs.declared.raw.RawFrame.TheVariants as frames
use Rattle.wv_frames.specs.declared.tag.FrameTag.{FrameTag}
use Rattle.wv_frames.specs.declared.tag.FrameTag.TheVariants as frame_tags
use Rattle.wv_frames.specs.Spelling.{type_bytes, list_bytes, frame_bytes, table_bytes, IsFrame, IsLayout}
use Rattle.wv_frames.specs.Reading.{tag_at, count_at, only_frames, frame_tag, behind_frame_tag, type_at, types_in, list_at, full_behind, frame_behind, frame_at, items_in, frames_in, table_at}
use Rattle.wv_frames.proofs.Sizes.{Fit, shift_up, shift_down, IsForm, same_form, one_form, extended_form, chop_form, append_form, full_form, frame_first, framed}
use Rattle.wv_frames.proofs.Readers.{Fill, Reads, resized, renamed, done, Then, then, Seen, seen, alike}
use Rattle.wv_frames.proofs.Tags.{Short, Meant, TagRoom, tag, CountRoom, count}
use Rattle.wv_frames.proofs.TypeParts.{some_is, coming, TypeText, TypesText, ListText, short_before, one_read, types_read, list_read}

-- ---- tags

pub data IsFrameTag : ℕ → FrameTag → Type 0 where
  same : {d : ℕ} → d < 64 → IsFrameTag d (frame_tags.Same d)
  same_with_one : {d : ℕ} → d < 64 → IsFrameTag (64 + d) (frame_tags.SameWithOne d)
  extended_with_one : IsFrameTag 247 frame_tags.SameWithOneExtended
  chop : {k : ℕ} → 1 ≤ k → k ≤ 3 → IsFrameTag (251 - k) (frame_tags.Chop k)
  same_extended : IsFrameTag 251 frame_tags.SameExtended
  append : {k : ℕ} → 1 ≤ k → k ≤ 3 → IsFrameTag (251 + k) (frame_tags.Append k)
  full : IsFrameTag 255 frame_tags.Full

tag_is : {b c : ℕ} (t : FrameTag) → b ≡ c → IsFrameTag b t → IsFrameTag c t
tag_is t e i = subst (λ (k : ℕ). IsFrameTag k t) e i

-- the tags from 247 on
from_247 : (k : ℕ) (t : FrameTag) → k < 9 → frame_tag (k + 247) ≡ Some t → IsFrameTag (k + 247) t
unfolding frame_tag
from_247 zero t lt e = subst (IsFrameTag 247) (some_is _ t e) extended_with_one
from_247 (suc zero) t lt e = subst (IsFrameTag 248) (some_is _ t e) (chop (omega arith) (omega arith))
from_247 (suc (suc zero)) t lt e = subst (IsFrameTag 249) (some_is _ t e) (chop (omega arith) (omega arith))
from_247 (suc (suc (suc zero))) t lt e = subst (IsFrameTag 250) (some_is _ t e) (chop (omega arith) (omega arith))
from_247 (suc (suc (suc (suc zero)))) t lt e = subst (IsFrameTag 251) (some_is _ t e) same_extended
from_247 (suc (suc (suc (suc (suc zero))))) t lt e = subst (IsFrameTag 252) (some_is _ t e) (append (omega arith) (omega arith))
from_247 (suc (suc (suc (suc (suc (suc zero)))))) t lt e = subst (IsFrameTag 253) (some_is _ t e) (append (omega arith) (omega arith))
from_247 (suc (suc (suc (suc (suc (suc (suc zero))))))) t lt e = subst (IsFrameTag 254) (some_is _ t e) (append (omega arith) (omega arith))
from_247 (suc (suc (suc (suc (suc (suc (suc (suc zero)))))))) t lt e = subst (IsFrameTag 255) (some_is _ t e) full
from_247 (suc (suc (suc (suc (suc (suc (suc (suc (suc k))))))))) t lt e = absurd (omega arith)

low_is : (b : ℕ) → b < 64 → frame_tag b ≡ Some (frame_tags.Same b)
unfolding frame_tag
low_is b lt = rw (lt-ltb b 64 lt) refl

one_is : (b : ℕ) → 64 ≤ b → b < 128 → frame_tag b ≡ Some (frame_tags.SameWithOne (b - 64))
unfolding frame_tag
one_is b ge lt = rw (le-ltb b 64 ge, lt-ltb b 128 lt) refl

reserved_is : (b : ℕ) → 128 ≤ b → b < 247 → frame_tag b ≡ None
unfolding frame_tag
reserved_is b ge lt = rw (le-ltb b 64 (omega arith), le-ltb b 128 ge, lt-ltb b 247 lt) refl

is_frame_tag : (b : ℕ) (t : FrameTag) → b < 256 → frame_tag b ≡ Some t → IsFrameTag b t
is_frame_tag b t small e = elim (cases_lt b 64) [
  | inl low ↦ subst (IsFrameTag b) (some_is _ t (sym (low_is b low) ∙ e)) (same low)
  | inr ge64 ↦ elim (cases_lt b 128) [
    | inl mid ↦ subst (IsFrameTag b) (some_is _ t (sym (one_is b ge64 mid) ∙ e)) (tag_is (frame_tags.SameWithOne (b - 64)) (omega arith) (same_with_one {d = b - 64} (omega arith)))
    | inr ge128 ↦ elim (cases_lt b 247) [
      | inl reserved ↦ absurd (let never : None ≡ Some t = sym (reserved_is b ge128 reserved) ∙ e in cc)
      | inr ge247 ↦
          let sum : b - 247 + 247 ≡ b = omega arith in
          tag_is t sum (from_247 (b - 247) t (omega arith) (ap frame_tag sum ∙ e))
    ]
  ]
]

chop_is : (k : ℕ) → 1 ≤ k → k ≤ 3 → frame_tag (251 - k) ≡ Some (frame_tags.Chop k)
unfolding frame_tag
chop_is zero ge le = absurd (omega arith)
chop_is (suc zero) ge le = refl
chop_is (suc (suc zero)) ge le = refl
chop_is (suc (suc (suc zero))) ge le = refl
chop_is (suc (suc (suc (suc k)))) ge le = absurd (omega arith)

append_is : (k : ℕ) → 1 ≤ k → k ≤ 3 → frame_tag (251 + k) ≡ Some (frame_tags.Append k)
unfolding frame_tag
append_is zero ge le = absurd (omega arith)
append_is (suc zero) ge le = refl
append_is (suc (suc zero)) ge le = refl
append_is (suc (suc (suc zero))) ge le = refl
append_is (suc (suc (suc (suc k)))) ge le = absurd (omega arith)

frame_tag_is : {b : ℕ} {t : FrameTag} → IsFrameTag b t → frame_tag b ≡ Some t
unfolding frame_tag
frame_tag_is (same {d = d} lt) = low_is d lt
frame_tag_is (same_with_one {d = d} lt) =
    let back : 64 + d - 64 ≡ d = omega arith in
    one_is (64 + d) (omega arith) (omega arith) ∙ ap (λ (k : ℕ). Some (frame_tags.SameWithOne k)) back
frame_tag_is extended_with_one = refl
frame_tag_is (chop {k = k} ge le) = chop_is k ge le
frame_tag_is same_extended = refl
frame_tag_is (append {k = k} ge le) = append_is k ge le
frame_tag_is full = refl

meant_frame : {b : ℕ} {t : FrameTag} → b < 256 → IsFrameTag b t → Meant frame_tag t (b ∷ [])
meant_frame {b} {t} lt i = record { byte = b; small = lt; means = frame_tag_is i; alone = refl }

-- ---- what stands behind a tag

abbrev FullText : RawFrame → List ℕ → Type 0
FullText = Then Short (λ delta. Then ListText (λ locals. Seen (λ stack. frames.Full delta locals stack) ListText))

abbrev pub Behind : FrameTag → RawFrame → List ℕ → Type 0
Behind (frame_tags.Same delta) = λ raw text. (raw ≡ frames.Same delta) × (text ≡ [])
Behind (frame_tags.SameWithOne delta) = Seen (λ stack. frames.SameWithOne delta stack) TypeText
Behind frame_tags.SameWithOneExtended = Then Short (λ delta. Seen (λ stack. frames.SameWithOneExtended delta stack) TypeText)
Behind (frame_tags.Chop k) = Seen (λ delta. frames.Chop k delta) Short
Behind frame_tags.SameExtended = Seen (λ delta. frames.SameExtended delta) Short
Behind (frame_tags.Append k) = Then Short (λ delta. Seen (λ locals. frames.Append delta locals) (TypesText k))
Behind frame_tags.Full = FullText

abbrev Left : ℕ → ℕ → Type 0
Left f = Fit (only_frames f)

full_read : (f : ℕ) → Reads (λ missing. full_behind missing f) FullText (λ n. FramesFill 2 0 2 f n) (λ _. Left f)
unfolding full_behind
full_read f =
    then (λ delta missing bytes. list_at missing (coming 0 1 f) bytes >>= λ locals. list_at missing (only_frames f) locals.1 >>= λ stack. Ok (frames.Full delta locals.0 stack.0, stack.1)) (short_before 0 2 f)
    (λ delta. then (λ locals missing bytes. list_at missing (only_frames f) bytes >>= λ stack. Ok (frames.Full delta locals stack.0, stack.1)) (list_read 1 f)
    (λ locals. seen (Left f) (λ stack. frames.Full delta locals stack) (list_read 0 f)))

behind_read : (f : ℕ) (t : FrameTag) → Reads (λ missing. frame_behind missing f t) (Behind t) (TagRoom frame_tag (behind_frame_tag f) t) (λ _. Left f)
behind_read f (frame_tags.Same delta) = done (frames.Same delta) (Left f)
behind_read f (frame_tags.SameWithOne delta) = seen (Left f) (λ stack. frames.SameWithOne delta stack) (one_read 0 0 f)
behind_read f frame_tags.SameWithOneExtended =
    then (λ delta missing bytes. type_at missing (only_frames f) bytes >>= λ stack. Ok (frames.SameWithOneExtended delta stack.0, stack.1)) (short_before 1 0 f) (λ delta. seen (Left f) (λ stack. frames.SameWithOneExtended delta stack) (one_read 0 0 f))
behind_read f (frame_tags.Chop k) = seen (Left f) (λ delta. frames.Chop k delta) (short_before 0 0 f)
behind_read f frame_tags.SameExtended = seen (Left f) (λ delta. frames.SameExtended delta) (short_before 0 0 f)
behind_read f (frame_tags.Append k) =
    then (λ delta missing bytes. types_in missing k (only_frames f) bytes >>= λ locals. Ok (frames.Append delta locals.0, locals.1)) (short_before k 0 f) (λ delta. seen (Left f) (λ locals. frames.Append delta locals) (types_read k 0 f))
behind_read f frame_tags.Full = full_read f

-- ---- one frame

abbrev pub FrameText : RawFrame → List ℕ → Type 0
FrameText raw text = IsFrame raw × (text ≡ frame_bytes raw)

being : (raw one : RawFrame) (text : List ℕ) → raw ≡ one → FrameText one text → FrameText raw text
being raw one text e t = subst (λ (r : RawFrame). FrameText r text) (sym e) t

frame_to : {b : ℕ} {t : FrameTag} → IsFrameTag b t → (raw : RawFrame) (back : List ℕ) → Behind t raw back → FrameText raw (b ∷ back)
frame_to (same {d = d} lt) raw back s = being raw (frames.Same d) (d ∷ back) s.0 (lt, ap (λ (z : List ℕ). d ∷ z) s.1)
frame_to (same_with_one {d = d} lt) raw back s = being raw (frames.SameWithOne d s.0) ((64 + d) ∷ back) s.1 ((lt, s.2.0), ap (λ (z : List ℕ). (64 + d) ∷ z) s.2.1)
frame_to extended_with_one raw back s =
    let u = s.second_is in
    being raw (frames.SameWithOneExtended s.first u.0) (247 ∷ back) u.1 ((s.first_is.0, u.2.0), ap (λ (z : List ℕ). 247 ∷ z) (s.parts ∙ ap (λ (z : List ℕ). z ++ s.back) s.first_is.1 ∙ ap (λ (z : List ℕ). number_bytes s.first ++ z) u.2.1))
frame_to (chop {k = k} ge le) raw back s = being raw (frames.Chop k s.0) ((251 - k) ∷ back) s.1 ((ge, le, s.2.0), ap (λ (z : List ℕ). (251 - k) ∷ z) s.2.1)
frame_to same_extended raw back s = being raw (frames.SameExtended s.0) (251 ∷ back) s.1 (s.2.0, ap (λ (z : List ℕ). 251 ∷ z) s.2.1)
frame_to (append {k = k} ge le) raw back s =
    let u = s.second_is in
    let len : length u.0 ≡ k = u.2.0 in
    being raw (frames.Append s.first u.0) ((251 + k) ∷ back) u.1
    ((omega arith, omega arith, u.2.1, s.first_is.0), ap (λ (n : ℕ). (251 + n) ∷ back) (sym len) ∙ ap (λ (z : List ℕ). (251 + length u.0) ∷ z) (s.parts ∙ ap (λ (z : List ℕ). z ++ s.back) s.first_is.1 ∙ ap (λ (z : List ℕ). number_bytes s.first ++ z) u.2.2))
frame_to full raw back s =
    let u = s.second_is in
    let v = u.second_is in
    being raw (frames.Full s.first u.first v.0) (255 ∷ back) v.1
    ((u.first_is.0, v.2.0, s.first_is.0), ap (λ (z : List ℕ). 255 ∷ z) (s.parts ∙ ap (λ (z : List ℕ). z ++ s.back) s.first_is.1 ∙ ap (λ (z : List ℕ). number_bytes s.first ++ z) (u.parts ∙ ap (λ (z : List ℕ). z ++ u.back) u.first_is.1 ∙ ap (λ (z : List ℕ). list_bytes u.first ++ z) v.2.1)))

abbrev Tagged : RawFrame → List ℕ → Type 0
Tagged = Then (Meant frame_tag) Behind

tagged : {b : ℕ} {t : FrameTag} (raw : RawFrame) (back text : List ℕ) → b < 256 → IsFrameTag b t → Behind t raw back → text ≡ b ∷ back → Tagged raw text
tagged {b} {t} raw back text lt i o e = record { first = t; front = b ∷ []; back = back; parts = e; first_is = meant_frame lt i; second_is = o }

frame_from : (raw : RawFrame) (text : List ℕ) → FrameText raw text → Tagged raw text
frame_from (frames.Same delta) text s = tagged (frames.Same delta) [] text (omega (arith, s.0)) (same s.0) (refl, refl) s.1
frame_from (frames.SameWithOne delta stack) text s = tagged (frames.SameWithOne delta stack) (type_bytes stack) text (omega (arith, s.0.0)) (same_with_one s.0.0) (stack, refl, (s.0.1, refl)) s.1
frame_from (frames.SameWithOneExtended delta stack) text s =
    tagged (frames.SameWithOneExtended delta stack) (number_bytes delta ++ type_bytes stack) text (omega arith) extended_with_one
    (record { first = delta; front = number_bytes delta; back = type_bytes stack; parts = refl; first_is = (s.0.0, refl); second_is = (stack, refl, (s.0.1, refl)) }) s.1
frame_from (frames.Chop k delta) text s = tagged (frames.Chop k delta) (number_bytes delta) text (omega arith) (chop s.0.0 s.0.1) (delta, refl, (s.0.2, refl)) s.1
frame_from (frames.SameExtended delta) text s = tagged (frames.SameExtended delta) (number_bytes delta) text (omega arith) same_extended (delta, refl, (s.0, refl)) s.1
frame_from (frames.Append delta locals) text s =
    tagged (frames.Append delta locals) (number_bytes delta ++ flat_map type_bytes locals) text (omega (arith, s.0.1)) (append s.0.0 s.0.1)
    (record { first = delta; front = number_bytes delta; back = flat_map type_bytes locals; parts = refl; first_is = (s.0.3, refl); second_is = (locals, refl, (refl, s.0.2, refl)) }) s.1
frame_from (frames.Full delta locals stack) text s =
    tagged (frames.Full delta locals stack) (number_bytes delta ++ (list_bytes locals ++ list_bytes stack)) text (omega arith) full
    (record {
      first = delta;
      front = number_bytes delta;
      back = list_bytes locals ++ list_bytes stack;
      parts = refl;
      first_is = (s.0.2, refl);
      second_is = record { first = locals; front = list_bytes locals; back = list_bytes stack; parts = refl; first_is = (s.0.0, refl); second_is = (stack, refl, (s.0.1, refl)) };
    }) s.1

frame_text : (raw : RawFrame) (text : List ℕ) → Tagged raw text → FrameText raw text
frame_text raw text t =
    let m = t.first_is in
    let whole : text ≡ m.byte ∷ t.back = t.parts ∙ ap (λ (z : List ℕ). z ++ t.back) m.alone in
    subst (FrameText raw) (sym whole) (frame_to (is_frame_tag m.byte t.first m.small m.means) raw t.back t.second_is)

abbrev TagsFill : ℕ → ℕ → Type 0
TagsFill f n = Fill (Meant frame_tag) (TagRoom frame_tag (behind_frame_tag f)) n

formed : (f n : ℕ) {e k j : ℕ} → IsForm e k j → FramesFill e k j f n → TagsFill f n
formed f n same_form h = let s = shift_down 1 h in record { value = frame_tags.Same 0; text = 0 ∷ []; more = s.0; spelled = meant_frame (omega arith) (same (omega arith)); rest = s.2; sum = s.1 }
formed f n one_form h = let s = shift_down 1 h in record { value = frame_tags.SameWithOne 0; text = 64 ∷ []; more = s.0; spelled = meant_frame (omega arith) (same_with_one (omega arith)); rest = s.2; sum = s.1 }
formed f n extended_form h = let s = shift_down 1 h in record { value = frame_tags.SameWithOneExtended; text = 247 ∷ []; more = s.0; spelled = meant_frame (omega arith) extended_with_one; rest = s.2; sum = s.1 }
formed f n chop_form h = let s = shift_down 1 h in record { value = frame_tags.SameExtended; text = 251 ∷ []; more = s.0; spelled = meant_frame (omega arith) same_extended; rest = s.2; sum = s.1 }
formed f n (append_form {k = k} ge le) h = let s = shift_down 1 h in record { value = frame_tags.Append k; text = (251 + k) ∷ []; more = s.0; spelled = meant_frame (omega arith) (append ge le); rest = s.2; sum = s.1 }
formed f n full_form h = let s = shift_down 1 h in record { value = frame_tags.Full; text = 255 ∷ []; more = s.0; spelled = meant_frame (omega arith) full; rest = s.2; sum = s.1 }

frame_there : (f n : ℕ) → Left (suc f) n → TagsFill f n
frame_there f n h =
    let g = frame_first h f refl in
    formed f n g.form (subst (λ (j : ℕ). FramesFill g.e g.k j f n) (omega arith) (subst (λ (k : ℕ). FramesFill g.e k (g.j + 0) f n) (omega arith) (subst (λ (e : ℕ). FramesFill e (g.k + 0) (g.j + 0) f n) (omega arith) g.rest)))

form_back : (f m : ℕ) {e k j : ℕ} → IsForm (suc e) k j → FramesFill e k j f m → Left (suc f) (1 + m)
form_back f m {e} {k} {j} form h =
    let all : FramesFill (1 + e) k j f (1 + m) = shift_up 1 h in
    framed form (subst (λ (l : ℕ). FramesFill (0 + suc e) (k + 0) l f (1 + m)) (omega arith) (subst (λ (t : ℕ). FramesFill (0 + suc e) t j f (1 + m)) (omega arith) (subst (λ (b : ℕ). FramesFill b k j f (1 + m)) (omega arith) all)))

frame_size : (f m : ℕ) {b : ℕ} {t : FrameTag} → IsFrameTag b t → TagRoom frame_tag (behind_frame_tag f) t m → Left (suc f) (1 + m)
frame_size f m (same lt) h = form_back f m same_form h
frame_size f m (same_with_one lt) h = form_back f m one_form h
frame_size f m extended_with_one h = form_back f m extended_form h
frame_size f m (chop ge le) h = form_back f m chop_form h
frame_size f m same_extended h = form_back f m chop_form h
frame_size f m (append ge le) h = form_back f m (append_form ge le) h
frame_size f m full h = form_back f m full_form h

frame_back : (f n : ℕ) → TagsFill f n → Left (suc f) n
frame_back f n p =
    subst (Left (suc f)) (omega (arith, p.sum, ap length p.spelled.alone)) (frame_size f p.more (is_frame_tag p.spelled.byte p.value p.spelled.small p.spelled.means) p.rest)

abbrev frame_steps : ℕ → ℕ → List ℕ → Result (RawFrame × List ℕ) ℕ
frame_steps f missing bytes = tag_at missing frame_tag (behind_frame_tag f) bytes >>= λ one. frame_behind missing f one.0 one.1

frame_alike : (f missing : ℕ) (bytes : List ℕ) → frame_at missing f bytes ≡ frame_steps f missing bytes
unfolding frame_at
frame_alike f missing bytes = refl

pub frame_read : (f : ℕ) → Reads (λ missing. frame_at missing f) FrameText (Left (suc f)) (λ _. Left f)
frame_read f =
    alike (frame_steps f) (λ missing. frame_at missing f) (frame_alike f)
    (resized (TagsFill f) (Left (suc f)) (frame_there f) (frame_back f)
    (renamed Tagged FrameText frame_text frame_from
    (then (λ one missing bytes. frame_behind missing f one bytes) (tag frame_tag (behind_frame_tag f)) (behind_read f))))

-- ---- so many frames

abbrev pub FramesText : ℕ → List RawFrame → List ℕ → Type 0
FramesText k all text = (length all ≡ k) × AllByRecursion IsFrame all × (text ≡ flat_map frame_bytes all)

frames_to : (k : ℕ) (all : List RawFrame) (text : List ℕ) → Then FrameText (λ one. Seen (λ others. one ∷ others) (FramesText k)) all text → FramesText (suc k) all text
frames_to k all text t =
    let s = t.second_is in
    subst (λ (xs : List RawFrame). FramesText (suc k) xs text) (sym s.1)
    (ap suc s.2.0, (t.first_is.0, s.2.1), t.parts ∙ ap (λ (z : List ℕ). z ++ t.back) t.first_is.1 ∙ ap (λ (z : List ℕ). frame_bytes t.first ++ z) s.2.2)

frames_from : (k : ℕ) (all : List RawFrame) (text : List ℕ) → FramesText (suc k) all text → Then FrameText (λ one. Seen (λ others. one ∷ others) (FramesText k)) all text
frames_from k [] text s = absurd (omega (arith, s.0))
frames_from k (one ∷ others) text s = record {
  first = one;
  front = frame_bytes one;
  back = flat_map frame_bytes others;
  parts = s.2;
  first_is = (s.1.0, refl);
  second_is = (others, refl, (omega (arith, s.0), s.1.1, refl));
}

frames_none : Reads (λ missing. frames_in missing 0) (FramesText 0) (Left 0) (λ _. Left 0)
unfolding items_in
frames_none =
    renamed (λ (all : List RawFrame) text. (all ≡ []) × (text ≡ [])) (FramesText 0)
    (λ all text s. subst (λ (xs : List RawFrame). FramesText 0 xs text) (sym s.0) (refl, tt, s.1))
    (λ all text s. none all text s)
    (done [] (Left 0))
  where
    none : (all : List RawFrame) (text : List ℕ) → FramesText 0 all text → (all ≡ []) × (text ≡ [])
    none [] text s = (refl, s.2)
    none (one ∷ others) text s = absurd (omega (arith, s.0))

abbrev frames_steps : ℕ → ℕ → List ℕ → Result (List RawFrame × List ℕ) ℕ
frames_steps k missing bytes = frame_at missing k bytes >>= λ one. frames_in missing k one.1 >>= λ others. Ok (one.0 ∷ others.0, others.1)

frames_alike : (k missing : ℕ) (bytes : List ℕ) → frames_in missing (suc k) bytes ≡ frames_steps k missing bytes
unfolding items_in
frames_alike k missing bytes = refl

pub frames_read : (k : ℕ) → Reads (λ missing. frames_in missing k) (FramesText k) (Left k) (λ _. Left 0)
frames_read zero = frames_none
frames_read (suc k) =
    alike (frames_steps k) (λ missing. frames_in missing (suc k)) (frames_alike k)
    (renamed (Then FrameText (λ one. Seen (λ others. one ∷ others) (FramesText k))) (FramesText (suc k)) (frames_to k) (frames_from k)
    (then (λ one missing bytes. frames_in missing k bytes >>= λ others. Ok (one ∷ others.0, others.1)) (frame_read k) (λ one. seen (Left 0) (λ others. one ∷ others) (frames_read k))))

-- ---- a table

abbrev pub TableText : List RawFrame → List ℕ → Type 0
TableText all text = IsLayout all × (text ≡ table_bytes all)

table_to : (all : List RawFrame) (text : List ℕ) → Then Short FramesText all text → TableText all text
table_to all text t =
    let len : length all ≡ t.first = t.second_is.0 in
    ((omega (arith, t.first_is.0), t.second_is.1), t.parts ∙ ap (λ (z : List ℕ). z ++ t.back) (t.first_is.1 ∙ ap number_bytes (sym len)) ∙ ap (λ (z : List ℕ). number_bytes (length all) ++ z) t.second_is.2)

table_from : (all : List RawFrame) (text : List ℕ) → TableText all text → Then Short FramesText all text
table_from all text s = record { first = length all; front = number_bytes (length all); back = flat_map frame_bytes all; parts = s.1; first_is = (s.0.0, refl); second_is = (refl, s.0.1, refl) }

counted_frames : (k : ℕ) → Reads (λ missing. frames_in missing k) (FramesText k) (CountRoom kinds.Frame (only_frames 0) k) (λ _. Left 0)
counted_frames k =
    resized (Left k) (CountRoom kinds.Frame (only_frames 0) k)
    (λ n h. subst (λ (j : ℕ). FramesFill 0 0 0 j n) (omega arith) h)
    (λ n h. subst (λ (j : ℕ). FramesFill 0 0 0 j n) (omega arith) h)
    (frames_read k)

abbrev pub TableFill : ℕ → Type 0
TableFill n = Fill Short (CountRoom kinds.Frame (only_frames 0)) n

abbrev table_steps : ℕ → List ℕ → Result (List RawFrame × List ℕ) ℕ
table_steps missing bytes = count_at missing kinds.Frame (only_frames 0) bytes >>= λ count. frames_in missing count.0 count.1

pub table_alike : (missing : ℕ) (bytes : List ℕ) → table_at missing bytes ≡ table_steps missing bytes
unfolding table_at
table_alike missing bytes = refl

pub table_read : Reads table_at TableText TableFill (λ _. Left 0)
table_read =
    alike table_steps table_at table_alike
    (renamed (Then Short FramesText) TableText table_to table_from
    (then (λ count missing bytes. frames_in missing count bytes) (count kinds.Frame (only_frames 0)) counted_frames))
