use Rattle.line_parser.proofs.fields.Laws.{first_part, number_first}
use Rattle.line_parser.proofs.fields.read_number.Goals as goal

pub slice_bounds-field_number-end : goal.slice_bounds-field_number-end
slice_bounds-field_number-end c = first_part _ _ c.field_len-n.ensures

pub returns : goal.returns
returns c = number_first _ _ _ c.field_len-n.ensures c.field_number.ensures
