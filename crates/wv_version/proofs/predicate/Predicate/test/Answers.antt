use Rattle.std.proofs.Common.{rules, tests}
use Rattle.std.proofs.lemmas.Iterator.{YieldsList-from_slice, cases_from_all}
use Rattle.std.proofs.lemmas.Iterator.Search.{true_from_All}
use Rattle.std.proofs.lemmas.Bool.{MatchBool-at_true}
use Rattle.std.proofs.lemmas.List.Elements.{All-from_all_within}
use Rattle.wv_version.specs.Term.{MeetsTerm}
use Rattle.wv_version.proofs.predicate.Predicate.test.Goals as goal

pub returns : goal.returns
returns c =
    let r = cases_from_all _ _ c.all.result (MeetsTerm c.args.version.now) (λ term. MeetsTerm c.args.version.now term → ⊥) c.all.ensures.ran (YieldsList-from_slice c.args.self.now.terms cc) (λ x q k. search (rules, tests)) (λ x q k. search (rules, tests)) in (
      λ t. All-from_all_within (MeetsTerm c.args.version.now) c.args.self.now.terms (MatchBool-at_true _ _ t r),
      λ h. true_from_All (MeetsTerm c.args.version.now) (λ term. MeetsTerm c.args.version.now term → ⊥) _ _ (λ x p q. q p) r h,
    )
