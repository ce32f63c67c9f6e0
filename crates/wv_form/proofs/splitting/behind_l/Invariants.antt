use Rattle.std.proofs.Common.{◌≡◌, drop}
use Rattle.wv_form.specs.NamedClasses.{behind_l}
use Rattle.wv_form.proofs.splitting.behind_l.Given as goal

-- the units so far are other ones
abbrev pub invariant-loop-place : goal.invariant-loop-place
invariant-loop-place l = behind_l l.part ≡ behind_l (drop l.place l.part)
