use Rattle.aps_pool.proofs.run.run.Given as goal

abbrev pub ghosts-share_out : goal.ghosts-share_out
ghosts-share_out g a = record { live = a.live.now }
