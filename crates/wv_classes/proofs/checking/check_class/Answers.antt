use Rattle.std.proofs.Common.{◌∙◌, sym, true≢false}
use Rattle.wv_classes.proofs.Breaking.{least-layout, least-reference, least-version, least-name}
use Rattle.wv_classes.proofs.checking.check_class.Goals as goal
use Rattle.wv_classes.proofs.checking.check_class.Goals.{in-Layout+in_ok-broken-in-Layout, in-Reference+in_ok-broken-in-Reference, in-Class, then-not-is_of_versions+in_ok-broken-in-Class, else-not-is_of_versions+in_ok-is_text_of-in-Class+then-not-branch+in_ok-broken-in-Class-2}

pub returns-clause-fault : goal.returns-clause-fault
returns-clause-fault c =
    let file = c.args.class in
    let broken = c.match-read.broken in
    elim c.match-read.branch [
      | in-Layout+in_ok-broken-in-Layout w ↦ least-layout file broken w.in-Layout.at w.in-Layout.is (w.broken-is ∙ w.in_ok-broken-in-Layout.ensures)
      | in-Reference+in_ok-broken-in-Reference w ↦ least-reference file broken w.in-Reference.at w.in-Reference.is (w.broken-is ∙ w.in_ok-broken-in-Reference.ensures)
      | in-Class w ↦ elim w.if-not-is_of_versions.branch [
        | then-not-is_of_versions+in_ok-broken-in-Class w' ↦
            least-version file broken w.in-Class.class w.in-Class.is
            (λ inside. true≢false (sym (w.is_of_versions.ensures.1 inside) ∙ w'.if-not-is_of_versions.true))
            (w.broken-is ∙ w'.broken-is ∙ w'.in_ok-broken-in-Class.ensures)
        | else-not-is_of_versions+in_ok-is_text_of-in-Class+then-not-branch+in_ok-broken-in-Class-2 w' ↦
            least-name file broken w.in-Class.class w.in-Class.is
            (w.is_of_versions.ensures.0 w'.if-not-is_of_versions.false)
            (λ own. true≢false (sym (w'.in_ok-is_text_of-in-Class.ensures.1 own) ∙ w'.if-not-branch.true))
            (w.broken-is ∙ w'.broken-is ∙ w'.in_ok-broken-in-Class-2.ensures)
      ]
    ]
