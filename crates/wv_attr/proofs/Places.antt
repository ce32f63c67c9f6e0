-- Reading a table part by part, and the place of its fault.
use Rattle.std.proofs.Common.{◌≡◌, ℕ, zero, suc, ◌+◌, ◌-◌, ◌^◌, ◌<◌, ◌≤◌, List, [], ◌∷◌, ◌++◌, length, take, drop, refl, sym, subst, ap, ◌∙◌, ◌⊎◌, inl, inr, arith}
use Rattle.std.proofs.lemmas.List.{length-append, length-take, length-take-le, length-drop, take-append-drop, take-append-le, take-take, drop-take, append-nil}
use Rattle.std.proofs.Math.Seq.{take-append-add, take-append_seam, take-length}
use Rattle.wv_room.specs.declared.elements.Elements.{Elements}
use Rattle.wv_room.specs.Counts.{elements_with, ElementsFillRoom}
use Rattle.wv_attr.specs.declared.mark.Mark.{Mark}
use Rattle.wv_attr.specs.declared.group.Group.{Group}
use Rattle.wv_attr.specs.Marks.{mark_bytes, table_bytes}
use Rattle.wv_attr.specs.Groups.{behind, less, IsShallow, Follows, end, part, pending}
use Rattle.wv_attr.specs.Layout.{IsTable}
use Rattle.wv_attr.specs.Steps.{IsNext}
use Rattle.wv_attr.proofs.Filling.{table-cons, follows_fill, filled, nothing_left}
use Rattle.wv_attr.proofs.Leading.{Leads, stay, past, on, table-append, table-one, leads_follow, leads_only, same_front, first_of}

-- so many of the bytes begin a table of their size
pub record Starts (gs : List Group) (bytes : List ℕ) (front : ℕ) : Type 0 where
  pub parts : List Mark
  pub small : length bytes < 2 ^ 32
  pub follows : Follows front gs parts
  pub long : length (table_bytes parts) ≡ length bytes
  pub agrees : take front (table_bytes parts) ≡ take front bytes

-- what was read, and what is due
pub record Reading (first : List Group) (bytes : List ℕ) (ms : List Mark) (at : ℕ) (gs : List Group) (due : Elements) : Type 0 where
  pub within : at ≤ length bytes
  pub read : take at bytes ≡ table_bytes ms
  pub leads : Leads first ms gs
  pub counts : due ≡ pending gs
  pub fits : ElementsFillRoom due (length bytes - at)

long_read : (bytes : List ℕ) (ms : List Mark) (at : ℕ) → at ≤ length bytes → take at bytes ≡ table_bytes ms → length (table_bytes ms) ≡ at
long_read bytes ms at le e = sym (ap length e) ∙ length-take-le at bytes le

split_read : (bytes : List ℕ) (at more : ℕ) → at ≤ length bytes → take (at + more) bytes ≡ take at bytes ++ take more (drop at bytes)
split_read bytes at more le =
    let long = length-take-le at bytes le in
    ap (take (at + more)) (sym (take-append-drop at bytes))
    ∙ ap (λ (k : ℕ). take (k + more) (take at bytes ++ drop at bytes)) (sym long)
    ∙ take-append-add (take at bytes) (drop at bytes) more

pub start : (first : List Group) (bytes : List ℕ) → ElementsFillRoom (pending first) (length bytes) → Reading first bytes [] 0 first (pending first)
start first bytes f = record { within = omega arith; read = refl; leads = stay; counts = refl; fits = subst (λ (k : ℕ). ElementsFillRoom (pending first) k) (omega arith) f }

module _ (first : List Group) (bytes : List ℕ) (ms : List Mark) (at : ℕ) where
  pub skip : (g : Group) (gs : List Group) (due : Elements) → g.count ≡ 0 → due ≡ pending gs → Reading first bytes ms at (g ∷ gs) due → Reading first bytes ms at gs due
  skip g gs due z e r = record { within = r.within; read = r.read; leads = past z r.leads; counts = e; fits = r.fits }

  pub advance : (g : Group) (gs : List Group) (due besides : Elements) (m : Mark) → 0 < g.count → besides ≡ pending (less g ∷ gs) → IsShallow g.kind g.depth
      → IsNext g.kind g.depth besides (length (drop at bytes)) m → drop at bytes ≡ mark_bytes m ++ drop (length (mark_bytes m)) (drop at bytes)
      → Reading first bytes ms at (g ∷ gs) due
      → Reading first bytes (ms ++ m ∷ []) (at + length (mark_bytes m)) (behind g.depth m ∷ less g ∷ gs) (elements_with (behind g.depth m).kind (behind g.depth m).count besides)
  advance g gs due besides m c e shallow is front r =
      let len = length-drop at bytes in
      let inside = is.within in
      let early = r.within in
      record {
        within = omega arith;
        read = split_read bytes at (length (mark_bytes m)) r.within ∙ ap (λ (t : List ℕ). t ++ take (length (mark_bytes m)) (drop at bytes)) r.read
            ∙ ap (λ (t : List ℕ). table_bytes ms ++ t) (ap (take (length (mark_bytes m))) front ∙ take-append_seam (mark_bytes m) (drop (length (mark_bytes m)) (drop at bytes)))
            ∙ sym (table-one ms m);
        leads = on m c is.valid is.of_kind shallow r.leads;
        counts = ap (elements_with (behind g.depth m).kind (behind g.depth m).count) e;
        fits = subst (λ (k : ℕ). ElementsFillRoom (elements_with (behind g.depth m).kind (behind g.depth m).count besides) k) (omega arith) is.fills;
      }

  -- nothing is left to read
  pub over_all : (due : Elements) → length bytes < 2 ^ 32 → Reading first bytes ms at [] due → IsTable first bytes ms
  over_all due small r =
      let none : length bytes - at ≡ 0 = nothing_left (subst (λ (e : Elements). ElementsFillRoom e (length bytes - at)) r.counts r.fits) in
      let early = r.within in
      let all : at ≡ length bytes = omega arith in
      let long = long_read bytes ms at r.within r.read in
      record {
        small = small;
        follows = subst (λ (t : List Mark). Follows (length bytes) first t) (append-nil ms) (subst (λ (k : ℕ). Follows k first (ms ++ [])) (omega arith) (leads_follow r.leads 0 [] end));
        spelled = sym (ap (λ (k : ℕ). take k bytes) all ∙ take-length bytes) ∙ r.read;
      }

  pub only_one : (due : Elements) (parts : List Mark) → length bytes < 2 ^ 32 → Reading first bytes ms at [] due → IsTable first bytes parts → parts ≡ ms
  only_one due parts small r t =
      let mine = over_all due small r in
      let rest = leads_only r.leads (length bytes) parts [] t.follows (sym t.spelled ∙ mine.spelled ∙ sym (append-nil (table_bytes ms))) in
      rest.splits ∙ ap (λ (t : List Mark). ms ++ t) (none_more rest.follows) ∙ append-nil ms
    where
      none_more : {near : ℕ} {others : List Mark} → Follows near [] others → others ≡ []
      none_more end = refl

  abbrev Fits : List Group → Elements → Type 0
  Fits gs due = ElementsFillRoom (pending gs) (length bytes - at)

  -- parts that begin with those read and go on so far
  begun : (gs : List Group) (due : Elements) (place : ℕ) (parts : List Mark) → length bytes < 2 ^ 32 → Reading first bytes ms at gs due → Follows place gs parts
      → length (table_bytes parts) ≡ length bytes - at → take place (table_bytes parts) ≡ take place (drop at bytes) → Starts first bytes (at + place)
  begun gs due place parts small r f long same =
      let mine = long_read bytes ms at r.within r.read in
      let early = r.within in
      record {
        parts = ms ++ parts;
        small = small;
        follows = subst (λ (k : ℕ). Follows k first (ms ++ parts)) (omega arith) (leads_follow r.leads place parts f);
        long = ap length (table-append ms parts) ∙ length-append (table_bytes ms) (table_bytes parts) ∙ omega arith;
        agrees = ap (take (at + place)) (table-append ms parts)
            ∙ ap (λ (k : ℕ). take (k + place) (table_bytes ms ++ table_bytes parts)) (sym mine)
            ∙ take-append-add (table_bytes ms) (table_bytes parts) place
            ∙ ap (λ (t : List ℕ). t ++ take place (table_bytes parts)) (sym r.read) ∙ ap (λ (t : List ℕ). take at bytes ++ t) same
            ∙ sym (split_read bytes at place r.within);
      }

  module _ (g : Group) (gs : List Group) (due besides : Elements) (place : ℕ) (small : length bytes < 2 ^ 32) (r : Reading first bytes ms at (g ∷ gs) due) (c : 0 < g.count)
      (e : besides ≡ pending (less g ∷ gs)) where
    place_is : (k : ℕ) → (k ≡ 0) ⊎ (0 < k)
    place_is zero = inl refl
    place_is (suc k) = inr (omega arith)

    -- the front before the place begins one, where a part does
    pub so_far : place ≤ length (drop at bytes) → (0 < place → (m : Mark) × IsShallow g.kind g.depth × IsNext g.kind g.depth besides (length (drop at bytes)) m × (take place (mark_bytes m) ≡ take place (drop at bytes)))
        → Starts first bytes (at + place)
    so_far near begins = go (place_is place)
      where
        go : (place ≡ 0) ⊎ (0 < place) → Starts first bytes (at + place)
        go (inl z) =
            let rest = filled (g ∷ gs) (length bytes - at) (subst (λ (d : Elements). ElementsFillRoom d (length bytes - at)) r.counts r.fits) in
            begun (g ∷ gs) due place rest.parts small r (subst (λ (k : ℕ). Follows k (g ∷ gs) rest.parts) (sym z) rest.follows) rest.long (subst (λ (k : ℕ). take k (table_bytes rest.parts) ≡ take k (drop at bytes)) (sym z) refl)
        go (inr pos) =
            let b = begins pos in
            let m = b.0 in
            let is = b.2 in
            let len = length-drop at bytes in
            let inside = is.within in
            let rest = filled (behind g.depth m ∷ less g ∷ gs) (length (drop at bytes) - length (mark_bytes m))
            (subst (λ (d : Elements). ElementsFillRoom (elements_with (behind g.depth m).kind (behind g.depth m).count d) (length (drop at bytes) - length (mark_bytes m))) e is.fills) in
            let reach : place ≤ length (mark_bytes m) = omega (arith, length-take place (mark_bytes m), length-take place (drop at bytes), ap length b.3) in
            begun (g ∷ gs) due place (m ∷ rest.parts) small r
            (part c is.valid is.of_kind (λ _. b.1) (subst (λ (k : ℕ). Follows k (behind g.depth m ∷ less g ∷ gs) rest.parts) (omega arith) rest.follows))
            (table-cons m rest.parts ∙ omega (arith, rest.long))
            (take-append-le place (mark_bytes m) (table_bytes rest.parts) reach ∙ b.3)

    -- none does with one byte more, where no part does
    pub not_further : ((m : Mark) (w : List ℕ) → IsShallow g.kind g.depth → IsNext g.kind g.depth besides (length (drop at bytes)) m → take (place + 1) (mark_bytes m ++ w) ≡ take (place + 1) (drop at bytes) → ⊥)
        → Starts first bytes (at + place + 1) → ⊥
    not_further none b =
        let mine = long_read bytes ms at r.within r.read in
        let early = r.within in
        let len = length-drop at bytes in
        let w = drop at (table_bytes b.parts) in
        let front : take at (table_bytes b.parts) ≡ table_bytes ms =
        sym (take-take at (at + place + 1) (table_bytes b.parts) (omega arith)) ∙ ap (take at) b.agrees ∙ take-take at (at + place + 1) bytes (omega arith) ∙ r.read in
        let whole : table_bytes b.parts ≡ table_bytes ms ++ w = sym (take-append-drop at (table_bytes b.parts)) ∙ ap (λ (t : List ℕ). t ++ w) front in
        let rest = leads_only r.leads (at + place + 1) b.parts w b.follows whole in
        let i = first_of c rest.follows in
        let behind_is : table_bytes rest.parts ≡ w = same_front (table_bytes ms) (table_bytes rest.parts) w (sym (table-append ms rest.parts) ∙ ap table_bytes (sym rest.splits) ∙ whole) in
        let w_is : mark_bytes i.mark ++ table_bytes i.others ≡ w = ap table_bytes (sym i.splits) ∙ behind_is in
        let total : length bytes ≡ at + (length (mark_bytes i.mark) + length (table_bytes i.others)) =
        omega (arith, b.long, ap length whole, length-append (table_bytes ms) w, ap length w_is, length-append (mark_bytes i.mark) (table_bytes i.others), mine) in
        let long : length (table_bytes i.others) ≡ length (drop at bytes) - length (mark_bytes i.mark) = omega arith in
        none i.mark (table_bytes i.others) (i.shallow (omega arith))
        (record {
          valid = i.valid;
          of_kind = i.of_kind;
          within = omega arith;
          fills = subst (λ (d : Elements). ElementsFillRoom (elements_with (behind g.depth i.mark).kind (behind g.depth i.mark).count d) (length (drop at bytes) - length (mark_bytes i.mark))) (sym e)
              (subst (λ (k : ℕ). ElementsFillRoom (pending (behind g.depth i.mark ∷ less g ∷ gs)) k) long (follows_fill i.follows));
        })
        (ap (take (place + 1)) w_is ∙ agree)
      where
        agree : take (place + 1) (drop at (table_bytes b.parts)) ≡ take (place + 1) (drop at bytes)
        agree =
            let same : take (at + (place + 1)) (table_bytes b.parts) ≡ take (at + (place + 1)) bytes = subst (λ (k : ℕ). take k (table_bytes b.parts) ≡ take k bytes) (omega arith) b.agrees in
            sym (drop-take at (place + 1) (table_bytes b.parts)) ∙ ap (drop at) same ∙ drop-take at (place + 1) bytes
