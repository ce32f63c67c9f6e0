use Rattle.wv_config.specs.Entries.{entries_at}
use Rattle.wv_config.specs.Finding.{IsReadingOf}
use Rattle.wv_config.proofs.loading.read_configs.Given as goal

-- the configurations at the chosen entries so far are read
abbrev pub invariant-loop-entry : goal.invariant-loop-entry
invariant-loop-entry l = IsReadingOf l.folder (entries_at l.yielded) l.reading
