-- The files that the program reads.
use Rattle.std.specs.Prelude.{◌≡◌, ◌⊎◌, ℕ, List, [], ◌∷◌, Option, None, Some, option_map, string_bytes, vec_items, ⊤}
use Rattle.facl.specs.declared.setup.Setup.{Setup}
use Rattle.facl_program.specs.FileStores.{Bytes, IsText, HasNoText}
use Rattle.facl_program.specs.declared.fault.ProgramFault.{ProgramFault}
use Rattle.facl_program.specs.declared.fault.ProgramFault.TheVariants.{CannotRead, NoMemory}
use Rattle.facl_program.specs.declared.files.Texts.{Texts}

-- the greatest number of bytes of a file that is loaded: 256 MiB
abbrev pub file_limit : ℕ
file_limit = 268435456

-- No text where no file is given; else there is one: all bytes of the file, as far as they are known.
abbrev pub IsTextOf : (List ℕ → Bytes) → Option (List ℕ) → Option (List ℕ) → Type 0
IsTextOf bytes_of None text = text ≡ None
IsTextOf bytes_of (Some file) None = ⊥
IsTextOf bytes_of (Some file) (Some text) = IsText file_limit (bytes_of file) text

-- each text is that of its file
abbrev pub AreTextsOf : (List ℕ → Bytes) → List (Option (List ℕ)) → List (Option (List ℕ)) → Type 0
AreTextsOf bytes_of [] [] = ⊤
AreTextsOf bytes_of (file ∷ files) (text ∷ texts) = IsTextOf bytes_of file text × AreTextsOf bytes_of files texts
AreTextsOf bytes_of files texts = ⊥

-- the file of this fault is the one that is given, and cannot be read or is over the limit; or memory ran out
abbrev pub IsUnread : (List ℕ → Bytes) → ProgramFault → Option (List ℕ) → Type 0
IsUnread bytes_of (CannotRead unread) file = (file ≡ Some (string_bytes unread)) × HasNoText file_limit (bytes_of (string_bytes unread))
IsUnread bytes_of fault file = fault ≡ NoMemory

-- The fault is that of the first of these files that has no text: those before it have theirs.
abbrev pub IsFirstUnread : (List ℕ → Bytes) → ProgramFault → List (Option (List ℕ)) → Type 0
IsFirstUnread bytes_of fault [] = ⊥
IsFirstUnread bytes_of fault (file ∷ files) =
    IsUnread bytes_of fault file ⊎ (((text : Option (List ℕ)) × IsTextOf bytes_of file text) × IsFirstUnread bytes_of fault files)

-- the texts of users, of groups and of a dump
abbrev pub texts_of : Texts → List (Option (List ℕ))
texts_of texts = option_map vec_items texts.passwd ∷ option_map vec_items texts.group ∷ option_map vec_items texts.dump ∷ []

abbrev pub setup_texts : Setup → List (Option (List ℕ))
setup_texts setup = option_map (λ t. t.now) setup.passwd ∷ option_map (λ t. t.now) setup.group ∷ option_map (λ t. t.now) setup.dump ∷ []
