pub mod ParentLines
