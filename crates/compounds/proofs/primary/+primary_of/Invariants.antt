-- Fewer primary octets are left at each call.
use Rattle.compounds.proofs.primary.+primary_of.Given as goal

abbrev pub decreases-primary_of : goal.decreases-primary_of
decreases-primary_of l = l.left
