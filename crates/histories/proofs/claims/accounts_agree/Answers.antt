use Rattle.histories.proofs.Accounts.{accounts_agree}
use Rattle.histories.proofs.claims.accounts_agree.Goals as goal

pub returns : goal.returns
returns c = accounts_agree
