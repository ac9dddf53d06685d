use Rattle.std.proofs.Common.{◌∙◌, ◌+◌, ◌++◌, ℕ, List, ap, sym, append_assoc}
use Rattle.std.specs.String.{string_bytes}
use Rattle.amqp_replay.specs.Report.{link_report}
use Rattle.amqp_replay.proofs.Reports.{links_from, links_from-step}
use Rattle.amqp_replay.proofs.report.put_links.Goals as goal

pub links-preserved : goal.links-preserved
links-preserved g c =
    let links = g.P.ScriptedPort.links_taken c.args.port.now in
    let out = string_bytes c.links.out in
    let k = c.links.k in
    let rest = links_from (k + 1) links in
    record {
      whole = ap (λ (x : List ℕ). x ++ rest) c.in_ok-put_link.ensures
          ∙ append_assoc out (link_report (k + 1, c.link.result.now)) rest
          ∙ ap (λ (x : List ℕ). out ++ x) (sym (links_from-step k links c.link.result.now c.link.ensures))
          ∙ c.links.invariant.whole;
      count = c.links.invariant.count;
    }
