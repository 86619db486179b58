-- Laws of the definitions: of a field, of one that is written, of packed words.
pub mod FieldLaws
pub mod PutLaws
pub mod PackLaws
