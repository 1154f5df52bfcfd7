use Rattle.halivomue_c.proofs.Answered.{loaded}
use Rattle.halivomue_c.proofs.halivomue_accounts_load.Goals as goal

pub returns-clause-is : goal.returns-clause-is
returns-clause-is c = loaded c.args.saved.now c.args.accounts.now c.load.new.accounts c.load.result c.load.ensures
