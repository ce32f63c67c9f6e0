-- Mixins are marked, or are refused in one way.
use Rattle.std.proofs.Common.{◌≡◌, List, refl, ap, sym, ◌∙◌, subst}
use Rattle.wv_base.specs.declared.broken.Broken.{Broken}
use Rattle.wv_classes.specs.declared.loaded_class.LoadedClass.{LoadedClass}
use Rattle.wv_front.specs.declared.order.AppliedMixin.{AppliedMixin}
use Rattle.wv_front.specs.Marked.{IsMarked, IsMarkless, AreMarked, IsFirstMarkless, markless_at}
use Rattle.wv_front.proofs.FirstOnes.{one-first, none-first}
use Rattle.wv_front.proofs.Grown.{stands-one}

marked-apart : (classes : List LoadedClass) (broken : Broken) (mixin : AppliedMixin) → IsMarked classes mixin → IsMarkless classes broken mixin → ⊥
marked-apart classes broken mixin marked (class, (stands, lacks), is) = lacks (marked class stands)

one-broken : (classes : List LoadedClass) (broken other : Broken) (mixin : AppliedMixin) → IsMarkless classes broken mixin → IsMarkless classes other mixin → broken ≡ other
one-broken classes broken other mixin (class, (stands, lacks), is) (class', (stands', lacks'), is') =
    is ∙ ap (λ (c : LoadedClass). markless_at c.path) (stands-one classes mixin.class_place mixin.class_place class class' refl stands stands') ∙ sym is'

pub one-markless : (classes : List LoadedClass) (mixins : List AppliedMixin) (broken other : Broken) → IsFirstMarkless classes mixins broken → IsFirstMarkless classes mixins other → broken ≡ other
one-markless classes mixins broken other (mixin, first) (mixin', first') =
    let same : mixin ≡ mixin' = one-first (IsMarked classes) (IsMarkless classes broken) (IsMarkless classes other) (marked-apart classes broken) (marked-apart classes other) mixins mixin mixin' first first' in
    one-broken classes broken other mixin' (subst (IsMarkless classes broken) same first.here) first'.here

pub marked-not_markless : (classes : List LoadedClass) (mixins : List AppliedMixin) (broken : Broken) → AreMarked classes mixins → IsFirstMarkless classes mixins broken → ⊥
marked-not_markless classes mixins broken marked (mixin, first) = none-first (IsMarked classes) (IsMarkless classes broken) (marked-apart classes broken) mixins mixin marked first
