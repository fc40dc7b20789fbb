use Rattle.std.proofs.Common.{◌≡◌, [], ◌∷◌, ◌++◌, arith, ap, ◌∙◌, map, rules}
use Rattle.std.proofs.lemmas.List.{map_push}
use Rattle.aps_words.proofs.Plainness.{known-map, at_dashes, at_repeat, at_other, at_option, at_end}
use Rattle.aps_words.proofs.plain.is_plain.Goals as goal
use Rattle.aps_words.proofs.plain.is_plain.Goals.{in-Some+else-is_seen+in_ok-push, in_default}

pub returns-then-eq : goal.returns-then-eq
returns-then-eq c =
    at_dashes c.args.words.now c.loop-word.word-index c.word-item.result _ _ c.loop-word-test.true c.word-item.is c.loop-word.invariant (search rules)

pub returns-then-is_seen : goal.returns-then-is_seen
returns-then-is_seen c =
    at_repeat c.args.words.now c.loop-word.word-index c.word-item.result _ _ c.loop-word-test.true c.word-item.is c.loop-word.invariant
    c.in-Some.name.now (search rules) (search (known-map, rules))

pub loop-word-preserved : goal.loop-word-preserved
loop-word-preserved c =
    elim c.match-option_name.branch [
      | in-Some+else-is_seen+in_ok-push w ↦
          let items : c.match-option_name.seen.items ≡ c.loop-word.seen.items ++ w.in-Some.name ∷ [] = search rules in
          let names : map (λ n. n.now) c.match-option_name.seen.items ≡ map (λ n. n.now) c.loop-word.seen.items ++ w.in-Some.name.now ∷ [] =
          ap (map (λ n. n.now)) items ∙ map_push (λ n. n.now) c.loop-word.seen.items w.in-Some.name in
          rw names (at_option c.args.words.now c.loop-word.word-index c.word-item.result _ _ c.loop-word-test.true c.word-item.is c.loop-word.invariant
          w.in-Some.name.now (search rules) (search rules) (search (known-map, rules)))
      | in_default w ↦
          let items : c.match-option_name.seen.items ≡ c.loop-word.seen.items = search rules in
          rw items (at_other c.args.words.now c.loop-word.word-index c.word-item.result _ _ c.loop-word-test.true c.word-item.is c.loop-word.invariant
          (search rules) (search rules))
    ]

pub returns : goal.returns
returns c = at_end c.args.words.now c.loop-word.word-index _ _ (omega arith) c.loop-word.invariant
