use Rattle.amqp_methods.proofs.properties.+bit.Given as goal

abbrev pub decreases-bit : goal.decreases-bit
decreases-bit l = l.place
