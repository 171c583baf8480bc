use Rattle.rules.proofs.Requests.{request_short, request_whole}
use Rattle.rules.proofs.read_request.Goals as goal

pub returns-then-request-le1 : goal.returns-then-request-le1
returns-then-request-le1 c = request_short _ _ c.get-budget.ensures c.if-request-le1.true

pub returns : goal.returns
returns c = request_whole _ _ _ c.get-budget.ensures c.if-request-le1.false c.get-proofs.ensures
