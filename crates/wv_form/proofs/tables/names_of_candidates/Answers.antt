use Rattle.wv_form.specs.Tables.{candidate_names}
use Rattle.wv_form.proofs.NameSets.{same-names, name-more}
use Rattle.wv_form.proofs.tables.names_of_candidates.Goals as goal
use Rattle.wv_form.proofs.tables.names_of_candidates.Goals.{in-Some+in_ok-insert, in_default}

pub loop-known-preserved : goal.loop-known-preserved
loop-known-preserved c =
    let files = c.args.files.now in
    let i = c.loop-known.known-index in
    let one = c.known-item.result in
    elim c.match-candidate_name.branch [
      | in-Some+in_ok-insert w ↦
          rw w.names-is
          (name-more files i one c.loop-known-test.true c.known-item.is candidate_names w.in-Some.name.now c.loop-known.names w.insert.new.self
          (rw w.in-Some.is at c.candidate_name.ensures)
          (λ text. w.in_ok-insert.ensures.updates.0 (record { ref_ptr = (0, 0); now = text }))
          c.loop-known.invariant)
      | in_default w ↦
          rw w.names-is
          (same-names files i one c.loop-known-test.true c.known-item.is candidate_names c.loop-known.names (rw w.in_default.is at c.candidate_name.ensures) c.loop-known.invariant)
    ]
