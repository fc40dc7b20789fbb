use Rattle.std.proofs.Common.{◌+◌, ◌*◌, ◌-◌, ◌∙◌, ap, arith, cond, slice_index}
use Rattle.aps_model.specs.Limits.{last_cpu, most_cpus}
use Rattle.aps_model.specs.SchedulerState.{cpu_at}
use Rattle.aps_core.specs.declared.posts.Post.{Post}
use Rattle.aps_core.specs.Lowest.{key_past_all}
use Rattle.aps_core.specs.Posts.{post_at}
use Rattle.aps_core.proofs.FlagAfter.{key_of, le_false, le_true, rank_of_look}
use Rattle.aps_core.proofs.Heights.{post_height, post_rank}
use Rattle.aps_core.proofs.machine.Machine.key_at.Goals as goal

pub returns-clause-key : goal.returns-clause-key
returns-clause-key c inside =
    let s = c.args.self.now in
    let high = c.requires.look.high c.args.d c.requires.d in
    key_of s c.args.entries.now c.args.parts.now c.args.c c.args.now c.args.d c.at.result c.at-2.result.key c.past_if-past.result
    (λ ne. c.at.ensures ∙ c.requires.look.dues c.args.d inside ne)
    (λ same.
    let there = c.at.ensures ∙ ap (slice_index c.args.dues.now) same in
    let due = c.requires.look.own in
    omega (arith, there, due))
    (ap (λ (p : Post). p.key) c.at-2.ensures ∙ high.same
    ∙ ap (λ n. n * most_cpus + (last_cpu - c.args.d)) (post_height s c.args.parts.now c.args.classes (cpu_at s c.args.d).running (post_at c.args.posts.now c.args.d) c.requires.look.classes (c.requires.look.posts c.args.d inside)))
    (λ most. c.past_if-past.ensures ∙ ap (λ t. cond t key_past_all 0) (le_true c.at.result c.args.now most))
    (λ less. c.past_if-past.ensures ∙ ap (λ t. cond t key_past_all 0) (le_false c.at.result c.args.now less))

pub returns-clause-past : goal.returns-clause-past
returns-clause-past c spare =
    let none = c.at.ensures ∙ c.requires.look.spare c.args.d spare in
    let on = c.past_if-past.ensures ∙ ap (λ t. cond t key_past_all 0) (le_true c.at.result c.args.now (omega (arith, none))) in
    omega (arith, on)

pub returns-clause-rank : goal.returns-clause-rank
returns-clause-rank c inside =
    let s = c.args.self.now in
    rank_of_look s c.args.entries.now c.args.parts.now c.args.c c.args.now c.args.d
    (post_rank s c.args.parts.now (cpu_at s c.args.d).running _ (c.requires.look.posts c.args.d inside))
