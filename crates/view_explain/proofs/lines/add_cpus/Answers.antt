use Rattle.std.proofs.Common.{◌++◌, ◌∙◌, ap, sym, string_bytes}
use Rattle.std.specs.List.{flat_map, range_with_len}
use Rattle.std.proofs.lemmas.List.{flat_map_more}
use Rattle.view_explain.specs.Text.{cpu_line}
use Rattle.view_explain.proofs.Ranges.{range_more}
use Rattle.view_explain.proofs.lines.add_cpus.Goals as goal

pub loop-c-preserved : goal.loop-c-preserved
loop-c-preserved c =
    let past = c.args.scene.now in
    let x = c.args.x in
    let i = c.loop-c.c in
    let start = string_bytes c.args.out.now in
    c.in_ok-add_cpu.ensures ∙ ap (λ k. string_bytes c.loop-c.out ++ cpu_line past x k) c.at.ensures ∙ ap (λ t. t ++ cpu_line past x i) c.loop-c.invariant
    ∙ flat_map_more (cpu_line past x) start (range_with_len 0 i) i ∙ ap (λ l. start ++ flat_map (cpu_line past x) l) (sym (range_more i))
