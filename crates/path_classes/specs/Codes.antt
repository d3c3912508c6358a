-- Codes by which a proof tells rows, classes and files apart.
use Rattle.std.specs.Prelude.{Option, refl}
use Rattle.std.specs.Coded.{Coded, code_by, coded×, coded_ℕ, coded_list, coded_option}
use Rattle.kinds.specs.Kinds.{KindsOf}
use Rattle.kinds.specs.Numbered.{Kept, Numbers}
use Rattle.path_classes.specs.contracts.label_row.LabelRow as row_contracts
use Rattle.path_classes.specs.contracts.path_class.PathClass as class_contracts
use Rattle.path_classes.specs.declared.label_row.LabelRow.{LabelRow}
use Rattle.path_classes.specs.PathClasses.{ClassKinds}
use Rattle.path_classes.specs.NumberedRows.{FilesLeft}

abbrev pub coded_labels : Coded (KindsOf LabelRow)
coded_labels = coded× (coded_list (coded_option row_contracts.the_row.coded)) (coded_list coded_ℕ)

abbrev pub coded_classes : Coded ClassKinds
coded_classes = coded× (coded_list (coded_option class_contracts.the_row.coded)) (coded_list coded_ℕ)

abbrev pub coded_numbers : Coded Numbers
coded_numbers = coded_list (coded× (coded_list (coded_list coded_ℕ)) coded_ℕ)

-- rows of labels, with the numbers of files
abbrev pub coded_kept : Coded (Kept LabelRow)
coded_kept = coded× coded_labels coded_numbers

-- files that are still to come
abbrev pub coded_left : Coded FilesLeft
coded_left =
    code_by (KindsOf LabelRow × (Option ClassKinds × Numbers)) (coded× coded_labels (coded× (coded_option coded_classes) coded_numbers)) (λ f. (f.rows, (f.classes, f.left)))
    (λ p. record { rows = p.0; classes = p.1.0; left = p.1.1 }) (λ _. refl)
