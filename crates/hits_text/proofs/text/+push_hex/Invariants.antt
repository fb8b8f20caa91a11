-- Each call has one digit less to push.
use Rattle.hits_text.proofs.text.+push_hex.Given as goal

abbrev pub decreases-push_hex : goal.decreases-push_hex
decreases-push_hex g l = l.digits
