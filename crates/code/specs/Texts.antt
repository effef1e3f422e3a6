-- What is printed of an error.
use Rattle.std.specs.Prelude.{ℕ, List, ◌++◌, codes, decimal}
use Rattle.code.specs.declared.report.Report.{Report}
use Rattle.code.specs.Codes.{code_number, code_name, layer_name}

abbrev pub report_text : Report → List ℕ
report_text x =
    codes "code " ++ (decimal (code_number x.code) ++ (codes " " ++ (code_name x.code
    ++ (codes ", layer " ++ (layer_name x.layer ++ (codes ", position " ++ decimal x.position))))))
