-- Ids that are present twice.
use Rattle.std.proofs.Common.{◌≡◌, ℕ, ◌+◌, ◌<◌, ◌≤◌, List, [], ◌∷◌, ◌++◌, length, get_or, take, drop, map, refl, ap, sym, ◌∙◌, append_assoc}
use Rattle.std.proofs.lemmas.List.{map-append, take_all, take-append-drop}
use Rattle.wv_base.specs.declared.broken.Broken.{Broken}
use Rattle.wv_mod.specs.declared.fault.ModFault.{ModFault}
use Rattle.wv_mod.specs.declared.fault.ModFault.TheVariants as fault
use Rattle.wv_resolve.specs.Presence.{Presence, IsPresent, AreDistinct}
use Rattle.wv_resolve.specs.declared.source.Source.{Source}
use Rattle.wv_resolve.specs.Holding.{source_presence, source_presences}
use Rattle.wv_resolve.specs.Refusal.{IsTwiceBroken, IsBrokenFault, twice_broken}
use Rattle.wv_resolve.proofs.Lists.{front-more}

-- the id of the last is present before it
pub twice-last : (list : List Presence) (p : Presence) (broken : Broken) → AreDistinct list → IsPresent list p.id → broken ≡ twice_broken p → IsTwiceBroken (list ++ p ∷ []) broken
twice-last list p broken distinct again same = (p, record { front = list; after = []; split = refl; before = distinct; again = again }, same)

-- more behind it changes nothing
pub twice-more : (list more whole : List Presence) (f : ModFault) → whole ≡ list ++ more → IsBrokenFault (IsTwiceBroken list) f → IsBrokenFault (IsTwiceBroken whole) f
twice-more list more whole fault.Memory is h = tt
twice-more list more whole (fault.Broken broken) is h = (
  h.0,
  record {
    front = h.1.front;
    after = h.1.after ++ more;
    split = is ∙ ap (λ xs. xs ++ more) h.1.split ∙ append_assoc h.1.front (h.0 ∷ h.1.after) more;
    before = h.1.before;
    again = h.1.again;
  },
  h.2,
)

-- the ids of a source behind a list: its own, then one after the other of those that it provides
pub own-first : (list : List Presence) (source : Source) → list ++ source_presences source ≡ (list ++ source_presence source source.id.now ∷ []) ++ map (source_presence source) source.provides.now
own-first list source = sym (append_assoc list (source_presence source source.id.now ∷ []) (map (source_presence source) source.provides.now))

behind : (list : List Presence) (p : Presence) (done : List Presence) (q : Presence) → list ++ p ∷ (done ++ q ∷ []) ≡ (list ++ p ∷ done) ++ q ∷ []
behind list p done q = sym (append_assoc list (p ∷ done) (q ∷ []))

pub provided-more : (list : List Presence) (source : Source) (i : ℕ) (id : List ℕ) → i < length source.provides.now → id ≡ get_or source.provides.now i id → list ++ source_presence source source.id.now ∷ map (source_presence source) (take (i + 1) source.provides.now) ≡ (list ++ source_presence source source.id.now ∷ map (source_presence source) (take i source.provides.now)) ++ source_presence source id ∷ []
provided-more list source i id inside at =
    ap (λ ps. list ++ source_presence source source.id.now ∷ ps) (ap (map (source_presence source)) (front-more source.provides.now i id inside at) ∙ map-append (source_presence source) (take i source.provides.now) (id ∷ []))
    ∙ behind list (source_presence source source.id.now) (map (source_presence source) (take i source.provides.now)) (source_presence source id)

pub provided-all : (list : List Presence) (source : Source) (i : ℕ) → length source.provides.now ≤ i → list ++ source_presence source source.id.now ∷ map (source_presence source) (take i source.provides.now) ≡ list ++ source_presences source
provided-all list source i past = ap (λ ids. list ++ source_presence source source.id.now ∷ map (source_presence source) ids) (take_all i source.provides.now past)

pub provided-cut : (list : List Presence) (source : Source) (i : ℕ) (id : List ℕ) → i < length source.provides.now → id ≡ get_or source.provides.now i id → list ++ source_presences source ≡ ((list ++ source_presence source source.id.now ∷ map (source_presence source) (take i source.provides.now)) ++ source_presence source id ∷ []) ++ map (source_presence source) (drop (i + 1) source.provides.now)
provided-cut list source i id inside at =
    ap (λ ids. list ++ source_presence source source.id.now ∷ map (source_presence source) ids) (sym (take-append-drop (i + 1) source.provides.now))
    ∙ ap (λ ps. list ++ source_presence source source.id.now ∷ ps) (map-append (source_presence source) (take (i + 1) source.provides.now) (drop (i + 1) source.provides.now))
    ∙ sym (append_assoc list (source_presence source source.id.now ∷ map (source_presence source) (take (i + 1) source.provides.now)) (map (source_presence source) (drop (i + 1) source.provides.now)))
    ∙ ap (λ all. all ++ map (source_presence source) (drop (i + 1) source.provides.now)) (provided-more list source i id inside at)
