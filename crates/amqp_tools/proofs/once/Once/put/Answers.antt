use Rattle.std.proofs.Common.{◌≡◌, ℕ, List, map, ap, ◌∙◌}
use Rattle.amqp_tools.specs.Names.{PrintedNames, put_name}
use Rattle.amqp_tools.proofs.Naming.{put_key}
use Rattle.amqp_tools.proofs.once.Once.put.Goals as goal

pub returns : goal.returns
returns c =
    let keys : map (λ k. k.items) c.insert.new.self.keys ≡ put_name c.args.name.items (map (λ k. k.items) c.self.inside.later.keys) =
    ap (λ ks. map (λ k. k.items) ks) c.in_ok-_is_new.ensures.keys ∙ put_key (λ k. k.items) c.args.name c.self.inside.later.keys in
    let view : PrintedNames = record {
      earlier = map (λ k. k.items) c.self.inside.earlier.keys;
      later = map (λ k. k.items) c.self.inside.later.keys;
    } in
    ap (λ (later : List (List ℕ)). record view { later = later }) keys
    ∙ ap (λ (s : PrintedNames). record s { later = put_name c.args.name.items s.later }) c.self.view_is
