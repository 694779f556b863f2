use Rattle.console.proofs.plan_words.+parse_within.Given as goal

abbrev pub decreases-parse_within : goal.decreases-parse_within
decreases-parse_within l = l.depth
