use Rattle.amqp_resumed.proofs.capture.check_from.Goals as goal

pub returns : goal.returns
returns c =
    let heard = rw c.in-Whole.is at c.in_ok-place.ensures in
    let counted = c.in_ok-count-in-Whole.ensures in
    c.on_server.ensures c.args.client.now c.args.server.now heard.0 counted.0 heard.1 heard.2 counted.1 counted.2
