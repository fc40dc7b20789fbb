use Rattle.aps_live.proofs.live.Live.split.Given as goal

abbrev pub ghosts-cut : goal.ghosts-cut
ghosts-cut a = record { at = a._at }
