use Rattle.amqp_tools.proofs.options.+collect.Given as goal

abbrev pub decreases-collect : goal.decreases-collect
decreases-collect l = l.most
