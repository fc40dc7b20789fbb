use Rattle.aps_lock.proofs.dispatch.Dispatch.split.Given as goal

abbrev pub ghosts-cut : goal.ghosts-cut
ghosts-cut a = record { at = a._at }
