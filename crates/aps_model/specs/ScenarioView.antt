use Rattle.aps_model.specs.Scenario.{Scenario}
use Rattle.aps_model.specs.declared.scenario.Scenario.TheInside.{Inside}

-- what the fields of a scenario stand for
abbrev pub plain_of : Inside → Scenario
plain_of s = record {
  shape = s.shape;
  partitions = s.partitions.items;
  channels = s.channels.items;
  threads = s.threads.items;
  commands = s.commands.items;
}
