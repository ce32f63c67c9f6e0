-- What the reading of a Code attribute's content answers: what is spelled so, and where no content goes on.
use Rattle.std.proofs.Common.{◌≡◌, ℕ, zero, suc, ◌+◌, ◌-◌, ◌^◌, ◌<◌, ◌≤◌, List, [], ◌∷◌, ◌++◌, length, take, drop, Result, Ok, Err, refl, sym, ap, subst, ◌∙◌, inl, inr, arith, append_assoc}
use Rattle.std.specs.List.{flat_map}
use Rattle.std.proofs.lemmas.List.{length-append, append-nil, take-append-drop, length-take, length-drop, take_at, drop_at, take_all, nil_from_length}
use Rattle.wv_base.specs.declared.class_file.PoolEntry.{PoolEntry}
use Rattle.wv_insn.specs.declared.raw.Raw.{Raw}
use Rattle.wv_insn.specs.Spelling.{Spells}
use Rattle.wv_insn.specs.Standing.{Stands}
use Rattle.wv_pool.specs.Entries.{number_bytes}
use Rattle.wv_frames.proofs.Readers.{IsBytes, Begun, Broken, Ended, ok_is}
use Rattle.wv_code.specs.declared.raw_body.RawRange.{RawRange}
use Rattle.wv_code.specs.declared.raw_body.RawAttribute.{RawAttribute}
use Rattle.wv_code.specs.declared.raw_body.RawBody.{RawBody}
use Rattle.wv_code.specs.Code.{Follow}
use Rattle.wv_code.specs.Content.{length_bytes, range_bytes, attribute_bytes, IsContent, Begins, IsLayoutFault}
use Rattle.wv_code.specs.Reading.{content_at}
use Rattle.wv_code.proofs.Rooms.{Fit, some_code, code_least}
use Rattle.wv_code.proofs.Insns.{Code, Lines}
use Rattle.wv_code.proofs.ContentReads.{ContentText, ContentRoom, content_text_read}

-- ---- instructions that follow each other, and their lines

drop_nil : (n : ℕ) → drop {A = ℕ} n [] ≡ []
drop_nil zero = refl
drop_nil (suc n) = refl

drop_more : (m n : ℕ) (xs : List ℕ) → drop n (drop m xs) ≡ drop (m + n) xs
drop_more zero n xs = let same : n ≡ 0 + n = omega arith in ap (λ (k : ℕ). drop k xs) same
drop_more (suc m) n [] = drop_nil n ∙ sym (drop_nil (suc m + n))
drop_more (suc m) n (x ∷ xs) = let same : suc (m + n) ≡ suc m + n = omega arith in drop_more m n xs ∙ ap (λ (k : ℕ). drop k (x ∷ xs)) same

pub lines_follow : (front text : List ℕ) (raws : List Raw) (offsets : List ℕ) → Lines (length front) raws offsets text → Follow (front ++ text) (length front) raws offsets (length front + length text)
lines_follow front text [] [] lines = omega (arith, ap length lines)
lines_follow front text [] (o ∷ offsets) lines = absurd lines
lines_follow front text (r ∷ raws) [] lines = absurd lines
lines_follow front text (r ∷ raws) (o ∷ offsets) lines =
    let one = lines.1.0 in
    let back = lines.1.1 in
    let parts : text ≡ one ++ back = lines.1.2 in
    let whole : front ++ text ≡ (front ++ one) ++ back = ap (λ (z : List ℕ). front ++ z) parts ∙ sym (append_assoc front one back) in
    let here : take (length one) (drop (length front) (front ++ text)) ≡ one = ap (take (length one)) (drop_at front text (length front) refl ∙ parts) ∙ take_at one back (length one) refl in
    let others = lines_follow (front ++ one) back raws offsets (subst (λ (k : ℕ). Lines k raws offsets back) (sym (length-append front one)) lines.1.4) in
    let end : length (front ++ one) + length back ≡ length front + length text = omega (arith, length-append front one, ap length parts, length-append one back) in (
      lines.0,
      (
        length one,
        record { within = omega (arith, length-append front text, ap length parts, length-append one back); spelled = subst (λ (z : List ℕ). Spells (length front) r z) (sym here) lines.1.3 },
        subst (λ (k : ℕ). Follow (front ++ text) (length front + length one) raws offsets k) end (rw whole (subst (λ (k : ℕ). Follow ((front ++ one) ++ back) k raws offsets (length (front ++ one) + length back)) (length-append front one) others)),
      ),
    )

pub follow_lines : (code : List ℕ) (at : ℕ) (raws : List Raw) (offsets : List ℕ) → at ≤ length code → Follow code at raws offsets (length code) → Lines at raws offsets (drop at code)
follow_lines code at [] [] le f = nil_from_length (drop at code) (omega (arith, length-drop at code, f))
follow_lines code at [] (o ∷ offsets) le f = absurd f
follow_lines code at (r ∷ raws) [] le f = absurd f
follow_lines code at (r ∷ raws) (o ∷ offsets) le f =
    let len = f.1.0 in
    let stands : Stands code at r len = f.1.1 in
    let front : List ℕ = take len (drop at code) in
    let long : length front ≡ len = omega (arith, length-take len (drop at code), length-drop at code, stands.within) in
    let others = follow_lines code (at + len) raws offsets stands.within f.1.2 in (
      f.0,
      (
        front,
        drop len (drop at code),
        sym (take-append-drop len (drop at code)),
        stands.spelled,
        subst (λ (z : List ℕ). Lines (at + length front) raws offsets z) (sym (drop_more at len code)) (subst (λ (k : ℕ). Lines (at + k) raws offsets (drop (at + len) code)) (sym long) others),
      ),
    )

-- ---- the content

pub content_is : (pool : List PoolEntry) (raw : RawBody) (text : List ℕ) → ContentText pool raw text → IsContent pool raw text
content_is pool raw text a =
    let b = a.second_is in
    let c = b.second_is in
    let d = c.second_is.1 in
    let e = d.second_is in
    let t = e.2 in
    let u = t.second_is.1 in
    let v = u.second_is in
    let w = v.second_is.1 in
    let raws : Code = d.first in
    let count : length u.first ≡ t.first = u.first_is.0 in
    let number : length w.0 ≡ v.first = w.2.0 in
    let tables : e.0 ≡ (u.first, w.0) = w.1 in
    let body : RawBody = record { max_stack = a.first; max_locals = b.first; len = c.first; code = record { raws = raws.0; offsets = raws.1 }; ranges = u.first; attributes = w.0 } in
    let same : raw ≡ body = e.1 ∙ ap (λ (x : List RawRange × List RawAttribute). record { max_stack = a.first; max_locals = b.first; len = c.first; code = record { raws = raws.0; offsets = raws.1 }; ranges = x.0; attributes = x.1 }) tables in
    subst (λ (x : RawBody). IsContent pool x text) (sym same) (record {
      code = d.front;
      follow = subst (λ (k : ℕ). Follow d.front 0 raws.0 raws.1 k) (omega (arith, d.first_is.0)) (lines_follow [] d.front raws.0 raws.1 d.first_is.1);
      whole = d.first_is.0;
      small = c.second_is.0;
      stack = a.first_is.0;
      locals = b.first_is.0;
      few_ranges = subst (λ (k : ℕ). k < 2 ^ 16) (sym count) t.second_is.0;
      ranges = u.first_is.1;
      few_attributes = subst (λ (k : ℕ). k < 2 ^ 16) (sym number) v.second_is.0;
      attributes = w.2.1;
      spelled =
          a.parts ∙ ap (λ (z : List ℕ). z ++ a.back) a.first_is.1 ∙ ap (λ (z : List ℕ). number_bytes a.first ++ z) (
          b.parts ∙ ap (λ (z : List ℕ). z ++ b.back) b.first_is.1 ∙ ap (λ (z : List ℕ). number_bytes b.first ++ z) (
          c.parts ∙ ap (λ (z : List ℕ). z ++ c.back) c.first_is.1 ∙ ap (λ (z : List ℕ). length_bytes c.first ++ z) (
          d.parts ∙ ap (λ (z : List ℕ). d.front ++ z) (
          t.parts ∙ ap (λ (z : List ℕ). z ++ t.back) (t.first_is.1 ∙ ap number_bytes (sym count)) ∙ ap (λ (z : List ℕ). number_bytes (length u.first) ++ z) (
          u.parts ∙ ap (λ (z : List ℕ). z ++ u.back) u.first_is.2 ∙ ap (λ (z : List ℕ). flat_map range_bytes u.first ++ z) (
          v.parts ∙ ap (λ (z : List ℕ). z ++ v.back) (v.first_is.1 ∙ ap number_bytes (sym number)) ∙ ap (λ (z : List ℕ). number_bytes (length w.0) ++ z) w.2.2))))));
    })

pub is_content : (pool : List PoolEntry) (raw : RawBody) (text : List ℕ) → IsContent pool raw text → ContentText pool raw text
is_content pool raw text c = record {
  first = raw.max_stack;
  front = number_bytes raw.max_stack;
  back = _;
  parts = c.spelled;
  first_is = (c.stack, refl);
  second_is = record {
    first = raw.max_locals;
    front = number_bytes raw.max_locals;
    back = _;
    parts = refl;
    first_is = (c.locals, refl);
    second_is = record {
      first = raw.len;
      front = length_bytes raw.len;
      back = _;
      parts = refl;
      first_is = (c.small, refl);
      second_is = (
        c.small,
        record {
          first = (raw.code.raws, raw.code.offsets);
          front = c.code;
          back = _;
          parts = refl;
          first_is = (c.whole, follow_lines c.code 0 raw.code.raws raw.code.offsets (omega arith) (subst (λ (k : ℕ). Follow c.code 0 raw.code.raws raw.code.offsets k) (sym c.whole) c.follow));
          second_is = (
            (raw.ranges, raw.attributes),
            refl,
            record {
              first = length raw.ranges;
              front = number_bytes (length raw.ranges);
              back = _;
              parts = refl;
              first_is = (c.few_ranges, refl);
              second_is = (
                c.few_ranges,
                record {
                  first = raw.ranges;
                  front = flat_map range_bytes raw.ranges;
                  back = _;
                  parts = refl;
                  first_is = (refl, c.ranges, refl);
                  second_is = record {
                    first = length raw.attributes;
                    front = number_bytes (length raw.attributes);
                    back = flat_map attribute_bytes raw.attributes;
                    parts = refl;
                    first_is = (c.few_attributes, refl);
                    second_is = (c.few_attributes, (raw.attributes, refl, (refl, c.attributes, refl)));
                  };
                },
              );
            },
          );
        },
      );
    };
  };
}

-- ---- rooms

pub room_of : (n : ℕ) → 12 ≤ n → n < 2 ^ 32 → ContentRoom n
room_of n low high = record { more = n - 2; sum = omega arith; rest = record { more = n - 4; sum = omega arith; rest = some_code (n - 4) (omega arith) (omega arith) } }

pub room_least : (n : ℕ) → ContentRoom n → 12 ≤ n
room_least n r = let least : 8 ≤ r.rest.more = code_least r.rest.more r.rest.rest in omega (arith, r.sum, r.rest.sum, least)

pub content_least : (pool : List PoolEntry) (raw : RawBody) (text : List ℕ) → IsContent pool raw text → 12 ≤ length text
content_least pool raw text c = let least = room_least (length text + 0) ((content_text_read pool).back raw text 0 (is_content pool raw text c) (record { least = omega arith; most = omega arith })) in omega (arith, least)

-- ---- what reading answers

pub was_content : (pool : List PoolEntry) (missing : ℕ) (bytes : List ℕ) (x : RawBody × List ℕ) → IsBytes bytes → ContentRoom (length bytes + missing) → content_at pool missing bytes ≡ Ok x → IsContent pool x.0 bytes × (missing ≡ 0)
was_content pool missing bytes x fits room e =
    let t = (content_text_read pool).takes missing bytes x fits room e in
    let none : x.1 ≡ [] = nil_from_length x.1 (omega (arith, t.rest.most)) in
    let whole : bytes ≡ t.text = t.parts ∙ ap (λ (z : List ℕ). t.text ++ z) none ∙ append-nil t.text in
    (subst (IsContent pool x.0) (sym whole) (content_is pool x.0 t.text t.spelled), omega (arith, t.rest.most))

pub content_again : (pool : List PoolEntry) (raw : RawBody) (bytes : List ℕ) → IsContent pool raw bytes → content_at pool 0 bytes ≡ Ok (raw, [])
content_again pool raw bytes c =
    ap (content_at pool 0) (sym (append-nil bytes)) ∙ (content_text_read pool).again 0 raw bytes [] (is_content pool raw bytes c) (record { least = omega arith; most = omega arith })

pub one_content : (pool : List PoolEntry) (missing : ℕ) (bytes : List ℕ) (x : RawBody × List ℕ) (raw : RawBody) → content_at pool missing bytes ≡ Ok x → missing ≡ 0 → IsContent pool raw bytes → x.0 ≡ raw
one_content pool missing bytes x raw e none c = ap (λ (y : RawBody × List ℕ). y.0) (ok_is x (raw, []) (sym e ∙ ap (λ (k : ℕ). content_at pool k bytes) none ∙ content_again pool raw bytes c))

pub no_content : (pool : List PoolEntry) (missing : ℕ) (bytes : List ℕ) (left : ℕ) (raw : RawBody) → content_at pool missing bytes ≡ Err left → missing ≡ 0 → IsContent pool raw bytes → ⊥
no_content pool missing bytes left raw e none c = let never : Path (Result (RawBody × List ℕ) ℕ) (Ok (raw, [])) (Err left) = sym (content_again pool raw bytes c) ∙ ap (λ (k : ℕ). content_at pool k bytes) (sym none) ∙ e in absurd cc

begins_of : (pool : List PoolEntry) (front : List ℕ) (n : ℕ) → Begun (ContentText pool) (λ _ m. Fit m 0) front n → Begins pool (length front + n) front
begins_of pool front n b = record { raw = b.value; more = b.more; content = content_is pool b.value (front ++ b.more) b.spelled; sized = omega (arith, length-append front b.more, b.sum, b.rest.most) }

broken_content : (pool : List PoolEntry) (missing : ℕ) (bytes : List ℕ) (left : ℕ) → Broken (content_at pool) (ContentText pool) (λ _ m. Fit m 0) missing bytes left → content_at pool missing bytes ≡ Err left → IsLayoutFault pool missing bytes (length bytes - left)
broken_content pool missing bytes left d e =
    let sizes : length bytes ≡ length d.front + suc (length d.rest) = ap length d.parts ∙ length-append d.front (d.byte ∷ d.rest) in
    let place : length bytes - left ≡ length d.front = omega (arith, sizes, d.place) in
    let front : take (length bytes - left) bytes ≡ d.front = ap (take (length bytes - left)) d.parts ∙ take_at d.front (d.byte ∷ d.rest) (length bytes - left) (sym place) in
    let longer : take (length bytes - left + 1) bytes ≡ d.front ++ d.byte ∷ [] =
    ap (take (length bytes - left + 1)) (d.parts ∙ sym (append_assoc d.front (d.byte ∷ []) d.rest)) ∙ take_at (d.front ++ d.byte ∷ []) d.rest (length bytes - left + 1) (omega (arith, length-append d.front (d.byte ∷ []), place)) in
    record {
      within = omega arith;
      begun = λ some. subst (λ (z : List ℕ). Begins pool (length bytes + missing) z) (sym front) (subst (λ (k : ℕ). Begins pool k d.front) (omega (arith, sizes)) (begins_of pool d.front (suc (length d.rest + missing)) d.begun));
      none = λ lt begins.
          let b : Begins pool (length bytes + missing) (d.front ++ d.byte ∷ []) = subst (λ (z : List ℕ). Begins pool (length bytes + missing) z) longer begins in
          let whole : (d.front ++ d.byte ∷ []) ++ b.more ≡ d.front ++ d.byte ∷ b.more = append_assoc d.front (d.byte ∷ []) b.more in
          let len : length b.more + 0 ≡ length d.rest + missing = omega (arith, b.sized, ap length whole, length-append d.front (d.byte ∷ b.more), sizes) in
          no_content pool 0 (d.front ++ d.byte ∷ b.more) (suc (length b.more)) b.raw (d.stays b.more 0 len) refl (subst (IsContent pool b.raw) whole b.content);
      no_content = λ none raw c. no_content pool missing bytes left raw e none c;
    }

ended_content : (pool : List PoolEntry) (missing : ℕ) (bytes : List ℕ) (left : ℕ) → Ended (ContentText pool) (λ _ m. Fit m 0) missing bytes left → IsLayoutFault pool missing bytes (length bytes - left)
ended_content pool missing bytes left d =
    let place : length bytes - left ≡ length bytes = omega (arith, d.place) in
    let front : take (length bytes - left) bytes ≡ bytes = take_all (length bytes - left) bytes (omega (arith, place)) in
    record {
      within = omega arith;
      begun = λ some. subst (λ (z : List ℕ). Begins pool (length bytes + missing) z) (sym front) (begins_of pool bytes missing d.begun);
      none = λ lt. absurd (omega (arith, place));
      no_content = λ none. absurd (omega (arith, d.some));
    }

pub content_fault : (pool : List PoolEntry) (missing : ℕ) (bytes : List ℕ) (left : ℕ) → IsBytes bytes → ContentRoom (length bytes + missing) → content_at pool missing bytes ≡ Err left → (left ≤ length bytes) × IsLayoutFault pool missing bytes (length bytes - left)
content_fault pool missing bytes left fits room e = elim ((content_text_read pool).stops missing bytes left fits room e) [
  | inl d ↦ (omega (arith, d.place, ap length d.parts, length-append d.front (d.byte ∷ d.rest)), broken_content pool missing bytes left d e)
  | inr d ↦ (omega (arith, d.place), ended_content pool missing bytes left d)
]

-- too few bytes for a content
pub too_few : (pool : List PoolEntry) (missing : ℕ) (bytes : List ℕ) → length bytes + missing < 12 → IsLayoutFault pool missing bytes 0
too_few pool missing bytes few = record {
  within = omega arith;
  begun = λ some. absurd (omega arith);
  none = λ lt b. absurd (let least = content_least pool b.raw (take (0 + 1) bytes ++ b.more) b.content in omega (arith, b.sized));
  no_content = λ none raw c. absurd (let least = content_least pool raw bytes c in omega arith);
}
